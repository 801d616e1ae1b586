-- Weighted graphs over any kind of name. (Mohri 2009, section 3.1: states, arcs, a start, final weights. A
-- machine names its states by numbers; constructions upon machines name theirs by pairs, lists and more.)
use Rattle.std.specs.Prelude.{ℕ, List, [], Option, map, get_or}
use Rattle.fst_semiring.specs.Cost.{Cost, infinite}
use Rattle.fst_machine.specs.Machine.{Arc, State, Machine}

-- A graph: its start, if it has one, the arcs of each name in order, and each name's final weight.
pub record Graph (N : Type 0) : Type 0 where
  pub start : Option N
  pub arcs : N → List (Arc Cost N)
  pub final : N → Cost

-- the state that stands for a number that names none: no arcs, and not final
abbrev pub no_state : State Cost
no_state = record { final = infinite; arcs = [] }

-- a machine as a graph over the numbers of its states
abbrev pub graph_of : Machine Cost → Graph ℕ
graph_of m = record { start = m.start; arcs = λ p. (get_or m.states p no_state).arcs; final = λ p. (get_or m.states p no_state).final }

-- the arc with the same labels and weight to the renamed state
abbrev pub renamed : {N M : Type 0} → (N → M) → Arc Cost N → Arc Cost M
renamed f a = record { ilabel = a.ilabel; olabel = a.olabel; weight = a.weight; next = f a.next }

-- the names to which arcs lead, in order
abbrev pub nexts : {N : Type 0} → List (Arc Cost N) → List N
nexts arcs = map (λ a. a.next) arcs
