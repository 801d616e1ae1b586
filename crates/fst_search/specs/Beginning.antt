-- A search before its first round.
use Rattle.std.specs.Prelude.{◌≡◌, ℕ, Bool, ◌<◌, ◌≤◌, ◌*◌, List, [], Option, None, Ok, Err, Result, get_or, length, slice_get, Some}
use Rattle.fst_semiring.specs.Cost.{Cost, infinite}
use Rattle.fst_semiring.specs.declared.arc_type.ArcType.{ArcType}
use Rattle.fst_semiring.specs.Semiring.{one_of, IsCost, Within}
use Rattle.fst_machine.specs.BreadthFirst.{Apart, Has}
use Rattle.fst_machine.specs.Distance.{IsLeast}
use Rattle.fst_machine.specs.Graph.{Graph}
use Rattle.fst_machine.specs.declared.path.Step.{Step}
use Rattle.fst_search.specs.declared.direction.Direction.{Direction}
use Rattle.fst_search.specs.Cycles.{IsFound}
use Rattle.fst_search.specs.Hops.{Hop, Arrives, IsOpen}
use Rattle.fst_search.specs.Searching.{Node, blank_node, distance_at, link_at, turn_at}

-- nothing has come to any of n states
abbrev pub IsBlank : ℕ → List (Node Cost) → Type 0
IsBlank n nodes = (length nodes ≡ n) × ((q : ℕ) → get_or nodes q blank_node ≡ blank_node)

-- Some states have a value, and wait; no state has had its turn.
pub record IsBegun (kind : ArcType) (n bound : ℕ) (nodes : List (Node Cost)) (members met : List ℕ) : Type 0 where
  pub size : length nodes ≡ n
  pub unlinked : (q : ℕ) → link_at nodes q ≡ None
  pub unturned : (q : ℕ) → turn_at nodes q ≡ 0
  pub members_met : (q : ℕ) → Has members q → Has met q
  pub waiting : (q : ℕ) → (distance_at nodes q ≡ infinite → ⊥) → Has members q
  pub met_low : (q : ℕ) → Has met q → q < n
  pub met_only : (q : ℕ) → Has met q → distance_at nodes q ≡ infinite → ⊥
  pub met_all : (q : ℕ) → (distance_at nodes q ≡ infinite → ⊥) → Has met q
  pub met_apart : Apart met
  pub numbers : (q : ℕ) → Within bound (distance_at nodes q)
  pub kinds : (q : ℕ) → IsCost kind (distance_at nodes q)

-- one state has this value, all others have what they had
pub record Sets (state : ℕ) (value : Cost) (nodes after : List (Node Cost)) : Type 0 where
  pub here : distance_at after state ≡ value
  pub others : (q : ℕ) → (q ≡ state → ⊥) → distance_at after q ≡ distance_at nodes q

-- The values of n states, each the least that arrives at it.
pub record AreLeast (kind : ArcType) (Goes : Hop → Type 0) (source : ℕ → Cost) (n bound : ℕ) (values : List Cost) : Type 0 where
  pub size : length values ≡ n
  pub least : (q : ℕ) (d : Cost) → slice_get values q ≡ Some d → IsLeast (Arrives kind Goes source q) d
  pub numbers : (q : ℕ) (d : Cost) → slice_get values q ≡ Some d → Within (n * bound) d
  pub kinds : (q : ℕ) (d : Cost) → slice_get values q ≡ Some d → IsCost kind d

-- One at a single state, and Zero at all others.
pub record IsOnly (kind : ArcType) (source : ℕ → Cost) (start : ℕ) : Type 0 where
  pub here : source start ≡ one_of kind
  pub others : (q : ℕ) → (q ≡ start → ⊥) → source q ≡ infinite

-- what a search with given first values answers: the values, with an empty queue, or the cycle
abbrev pub Measures : {V E : Type 0} → (V → List Cost) → (E → List Step) → ArcType → (Hop → Type 0) → (ℕ → Cost) → Direction → ℕ → ℕ
    → List ℕ → Result V E → Type 0
Measures values steps kind Goes source direction n bound members (Ok v) = (members ≡ []) × AreLeast kind Goes source n bound (values v)
Measures values steps kind Goes source direction n bound members (Err e) = IsFound kind Goes source direction (steps e)

-- One at the start, if there is one, and Zero at all other states
abbrev pub BeginsAt : ArcType → Option ℕ → (ℕ → Cost) → Type 0
BeginsAt kind None source = (q : ℕ) → source q ≡ infinite
BeginsAt kind (Some start) source = IsOnly kind source start

-- the value with which hops to the final states begin at a state: its final weight where it counts, and else Zero
abbrev pub BeginsFinal : List Bool → ℕ → Cost → Cost → Type 0
BeginsFinal marks q final d = (IsOpen marks q → d ≡ final) × ((d ≡ infinite → ⊥) → IsOpen marks q × (d ≡ final))

-- the same for the first states, where all others have none yet
abbrev pub BeginsFinals : List Bool → Graph ℕ → ℕ → (ℕ → Cost) → Type 0
BeginsFinals marks g i source = (q : ℕ) → (q < i → BeginsFinal marks q (g.final q) (source q)) × (i ≤ q → source q ≡ infinite)
