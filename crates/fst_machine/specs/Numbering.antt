-- A machine that numbers the names of a graph by their places in a finished list. (Mohri 2009, section 4.1:
-- the states of a composition are named by pairs, and the result numbers them.)
use Rattle.std.specs.Prelude.{◌≡◌, ℕ, ◌<◌, List, [], ◌∷◌, Option, None, Some, length, map, get_or, slice_get}
use Rattle.fst_semiring.specs.Cost.{Cost}
use Rattle.fst_machine.specs.Machine.{Arc, Machine}
use Rattle.fst_machine.specs.Graph.{Graph, graph_of, renamed}

-- the machine's start: the first name, if there is one
abbrev pub start_of : {N : Type 0} → List N → Option ℕ
start_of [] = None
start_of (n ∷ names) = Some 0

-- The machine is the graph of these names, numbered: it has a state for each, the start is the first, and
-- each state has the final weight of its name and its arcs, which lead to the places of the names where the
-- name's arcs lead.
pub record IsNumbered {N : Type 0} (g : Graph N) (names : List N) (m : Machine Cost) : Type 0 where
  pub start : m.start ≡ start_of names
  pub first : g.start ≡ slice_get names 0
  pub states : length m.states ≡ length names
  pub arcs : (i : ℕ) (n d : N) → slice_get names i ≡ Some n → g.arcs n ≡ map (renamed (λ j. get_or names j d)) ((graph_of m).arcs i)
  pub final : (i : ℕ) (n : N) → slice_get names i ≡ Some n → g.final n ≡ (graph_of m).final i
  pub within : (i k : ℕ) (a : Arc Cost ℕ) → i < length names → slice_get ((graph_of m).arcs i) k ≡ Some a → a.next < length names
