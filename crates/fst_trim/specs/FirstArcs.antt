-- Acceptors, deterministic machines, and the first arc that keeps a machine from being one. (OpenFst manual,
-- "Properties": acceptor, input deterministic; Mohri 2009, section 3.1.)
use Rattle.std.specs.Prelude.{◌≡◌, ◌≢◌, ℕ, ◌<◌, List, Option, None, Some, slice_get}
use Rattle.std.specs.Option.{option_map}
use Rattle.fst_machine.specs.Machine.{Arc, Machine}
use Rattle.fst_machine.specs.BreadthFirst.{Precedes}
use Rattle.fst_machine.specs.declared.path.Step.{Step}

-- the arc in this place has two different labels
pub record HasTwoLabels {V : Type 0} (arcs : List (Arc V ℕ)) (place : ℕ) : Type 0 where
  pub arc : Arc V ℕ
  pub there : slice_get arcs place ≡ Some arc
  pub differ : arc.ilabel ≢ arc.olabel

-- an arc before this place has the input label
pub record HasEarlier {V : Type 0} (arcs : List (Arc V ℕ)) (place label : ℕ) : Type 0 where
  pub earlier : ℕ
  pub arc : Arc V ℕ
  pub before : earlier < place
  pub there : slice_get arcs earlier ≡ Some arc
  pub same : arc.ilabel ≡ label

-- an earlier arc has the input label of the arc in this place
pub record Repeats {V : Type 0} (arcs : List (Arc V ℕ)) (place : ℕ) : Type 0 where
  pub arc : Arc V ℕ
  pub there : slice_get arcs place ≡ Some arc
  pub repeated : HasEarlier arcs place arc.ilabel

-- the first place of a list that has the property, or none where there is none
abbrev pub IsFirstPlace : {X : Type 0} → (List X → ℕ → Type 0) → List X → Option ℕ → Type 0
IsFirstPlace P xs None = (place : ℕ) → P xs place → ⊥
IsFirstPlace P xs (Some found) = P xs found × ((place : ℕ) → place < found → P xs place → ⊥)

-- an arc of the machine, in this place of this state, has the property
pub record Meets {V : Type 0} (P : List (Arc V ℕ) → ℕ → Type 0) (m : Machine V) (state place : ℕ) : Type 0 where
  pub arcs : List (Arc V ℕ)
  pub has : option_map (λ s. s.arcs) (slice_get m.states state) ≡ Some arcs
  pub holds : P arcs place

-- the first arc, by state then place, that has the property, or none where there is none
abbrev pub IsFirstArc : {V : Type 0} → (List (Arc V ℕ) → ℕ → Type 0) → Machine V → Option Step → Type 0
IsFirstArc P m None = (state place : ℕ) → Meets P m state place → ⊥
IsFirstArc P m (Some step) = Meets P m step.state step.place × ((state place : ℕ) → Precedes state place step.state step.place → Meets P m state place → ⊥)

-- both labels of each arc are the same
abbrev pub IsAcceptor : {V : Type 0} → Machine V → Type 0
IsAcceptor m = (state place : ℕ) → Meets HasTwoLabels m state place → ⊥

-- no two arcs of a state have one input label
abbrev pub IsDeterministic : {V : Type 0} → Machine V → Type 0
IsDeterministic m = (state place : ℕ) → Meets Repeats m state place → ⊥
