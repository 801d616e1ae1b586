-- What a walk asks of a graph of names.
use Rattle.std.specs.Prelude.{◌≡◌, ◌≢◌, ◌<◌, ◌≤◌, ℕ, List, [], Option, None, Some, length}
use Rattle.fst_semiring.specs.Cost.{Cost, infinite}
use Rattle.fst_machine.specs.Graph.{Graph}
use Rattle.fst_machine.specs.Machine.{Arc, greatest_label, most_states}
use Rattle.fst_machine.specs.Paths.{IsPath, Transition}

-- an arc with its weight as a value
abbrev pub key_arc : {V N : Type 0} → (V → Cost) → Arc V N → Arc Cost N
key_arc value a = record { ilabel = a.ilabel; olabel = a.olabel; weight = value a.weight; next = a.next }

-- what is left of a list from a place on; nothing where there is no place
abbrev pub left_from : {X : Type 0} → (ℕ → List X) → Option ℕ → List X
left_from rest None = []
left_from rest (Some place) = rest place

-- the place that is next, if there is one, is a later one
abbrev pub IsLater : ℕ → Option ℕ → Type 0
IsLater from None = Unit {0}
IsLater from (Some place) = from < place

-- an arc with labels in range and a weight that is not Zero
pub record IsGoodArc {N : Type 0} (a : Arc Cost N) : Type 0 where
  pub ilabel : a.ilabel ≤ greatest_label
  pub olabel : a.olabel ≤ greatest_label
  pub weight : a.weight ≢ infinite

-- The start reaches the name by fewer arcs than a machine can have states. (So each number that the path has added up
-- is bounded.)
pub record IsNear {N : Type 0} (g : Graph N) (name : N) : Type 0 where
  pub start : N
  pub starts : g.start ≡ Some start
  pub path : List (Transition N)
  pub leads : IsPath g start path name
  pub short : length path < most_states
