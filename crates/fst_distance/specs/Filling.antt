-- How the machine of a pushed one is made: its states first, then the final weight and the arcs of each.
use Rattle.std.specs.Prelude.{ℕ, List, ◌++◌, drop, map, take}
use Rattle.fst_semiring.specs.Cost.{Cost}
use Rattle.fst_machine.specs.Machine.{Arc, State}
use Rattle.fst_machine.specs.Graph.{no_state}

-- the state with these arcs behind its own
abbrev pub with_arcs : List (Arc Cost ℕ) → State Cost → State Cost
with_arcs arcs s = record { final = s.final; arcs = s.arcs ++ arcs }

-- the state with the final weight of another, and its arcs behind its own
abbrev pub filled : State Cost → State Cost → State Cost
filled own s = record { final = own.final; arcs = s.arcs ++ own.arcs }

-- as many states that are not final and have no arcs
abbrev pub bare : List (State Cost) → List (State Cost)
bare states = map (λ s. no_state) states

-- the first of these states as they are, and the others bare
abbrev pub part_filled : ℕ → List (State Cost) → List (State Cost)
part_filled i states = take i states ++ bare (drop i states)
