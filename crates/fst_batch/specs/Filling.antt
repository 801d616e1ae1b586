-- A machine that is filled with the names of a graph, one after the other.
use Rattle.std.specs.Prelude.{◌≡◌, ◌<◌, ◌≤◌, ◌++◌, ℕ, List, Some, length, slice_get, take}
use Rattle.std.specs.List.{AllZip}
use Rattle.fst_semiring.specs.Cost.{Cost, infinite}
use Rattle.fst_semiring.specs.Semiring.{Within}
use Rattle.fst_machine.specs.BreadthFirst.{Has}
use Rattle.fst_machine.specs.Graph.{Graph}
use Rattle.fst_machine.specs.Machine.{Arc, Machine, State, arc_total, bare_state, most_arcs}
use Rattle.fst_machine.specs.Numbering.{IsNumbered}
use Rattle.fst_walk.specs.Making.{IsNumberedArc, IsNumberedState, arcs_of}

-- the state with this final weight, and these arcs behind its own
abbrev pub filled : {V : Type 0} → V → List (Arc V ℕ) → State V → State V
filled last arcs s = record { final = last; arcs = s.arcs ++ arcs }

-- whatever the numbered arcs stood for before, they now stand for that and these arcs behind it
abbrev pub Continues : {N : Type 0} → List N → List (Arc Cost N) → List (Arc Cost ℕ) → List (Arc Cost ℕ) → Type 0
Continues names arcs old new = (before : List (Arc Cost _)) → AllZip (IsNumberedArc names) before old → AllZip (IsNumberedArc names) (before ++ arcs) new

-- The machine has a state for each name; those of the first so many names have their arcs, to the numbers of names, and their final
-- weight, and the others have none yet.
pub record IsFilling {N : Type 0} (g : Graph N) (names : List N) (taken : ℕ) (m : Machine Cost) : Type 0 where
  pub start : m.start ≡ Some 0
  pub size : length m.states ≡ length names
  pub done : (j : ℕ) (n : N) (s : State Cost) → j < taken → slice_get names j ≡ Some n → slice_get m.states j ≡ Some s → IsNumberedState g names n s
  pub left : (j : ℕ) (s : State Cost) → taken ≤ j → slice_get m.states j ≡ Some s → s ≡ bare_state infinite
  pub counted : arc_total m.states ≡ arcs_of g (take taken names)

-- the numbers of the final weight of a state and of the weights of its arcs have absolute value at most 2 times 10 to the 18
pub record IsSmallState (s : State Cost) : Type 0 where
  pub final : Within 2000000000000000000 s.final
  pub arcs : (a : Arc Cost ℕ) → Has s.arcs a → Within 2000000000000000000 a.weight

-- so have those of each state
abbrev pub AreSmall : Machine Cost → Type 0
AreSmall m = (j : ℕ) (s : State Cost) → slice_get m.states j ≡ Some s → IsSmallState s

-- The machine is that of these names, numbered; it has no more arcs than a machine may have, and its numbers are small.
pub record IsMadeOf {N : Type 0} (g : Graph N) (names : List N) (m : Machine Cost) : Type 0 where
  pub start : m.start ≡ Some 0
  pub numbered : IsNumbered g names m
  pub few : arcs_of g names ≤ most_arcs
  pub small : AreSmall m
