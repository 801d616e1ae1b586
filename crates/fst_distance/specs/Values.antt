-- Values of states as the program keeps them: a list by the numbers of the states.
use Rattle.std.specs.Prelude.{◌≡◌, ℕ, ◌<◌, Bool, true, false, List, Option, None, Some, length, slice_get}
use Rattle.fst_semiring.specs.Cost.{Cost, infinite}
use Rattle.fst_semiring.specs.declared.arc_type.ArcType.{ArcType}
use Rattle.fst_semiring.specs.Semiring.{Within}
use Rattle.fst_machine.specs.Machine.{Arc, Machine}
use Rattle.fst_machine.specs.Graph.{graph_of}
use Rattle.fst_machine.specs.Distance.{IsFinalDistance}
use Rattle.fst_distance.specs.PushLaws.{IsPotential}

-- the value of a weight, Zero where there is none
abbrev pub value_or_zero : {V : Type 0} → (V → Cost) → Option V → Cost
value_or_zero value None = infinite
value_or_zero value (Some v) = value v

-- the value of a state
abbrev pub value_in : {V : Type 0} → (V → Cost) → List V → ℕ → Cost
value_in value list p = value_or_zero value (slice_get list p)

-- numbers of a distance have at most this absolute value, 2 to the 100, and those of pushed weights at most twice this
-- and 10 to the 18 more
abbrev pub most_distance : ℕ
most_distance = 1267650600228229401496703205376

-- 2 to the 102
abbrev pub most_pushed : ℕ
most_pushed = 5070602400912917605986812821504

-- These are the distances of the states of a trim machine to its final states.
pub record HasDistances (kind : ArcType) (c : Machine Cost) (d : ℕ → Cost) : Type 0 where
  pub distance : (p : ℕ) → p < length c.states → IsFinalDistance kind (graph_of c) p (d p)
  pub potential : IsPotential kind d (graph_of c) (λ p. p < length c.states)
  pub range : (p : ℕ) → p < length c.states → Within most_distance (d p)

-- The list has what the other has in these places.
pub record Picks {X : Type 0} (places : List ℕ) (all picked : List X) : Type 0 where
  pub size : length picked ≡ length places
  pub at : (i p : ℕ) → slice_get places i ≡ Some p → (x : X) × (slice_get picked i ≡ Some x) × (slice_get all p ≡ Some x)

-- whether one of the arcs leads to the state
abbrev pub LeadsTo : {V : Type 0} → List (Arc V ℕ) → ℕ → Bool → Type 0
LeadsTo {V} arcs state true = (place : ℕ) × (arc : Arc V ℕ) × (slice_get arcs place ≡ Some arc) × (arc.next ≡ state)
LeadsTo {V} arcs state false = (place : ℕ) (arc : Arc V ℕ) → slice_get arcs place ≡ Some arc → arc.next ≡ state → ⊥
