-- The machine whose states are the classes of equal behaviour of another. (Mohri 2009, section 3.4: the states of the
-- minimal machine are the classes of equivalent states of the pushed one.)
use Rattle.std.specs.Prelude.{◌≡◌, ◌↔◌, ℕ, ◌<◌, ◌≤◌, List, Some, length, map, get_or, slice_get}
use Rattle.std.specs.Option.{option_map}
use Rattle.fst_semiring.specs.Cost.{Cost}
use Rattle.fst_machine.specs.Machine.{State, Machine}
use Rattle.fst_machine.specs.Graph.{graph_of, renamed}
use Rattle.fst_minimize.specs.Behaviour.{Alike}

-- c has a state for each class of states of m with the same behaviour. The classes are numbered by their least
-- members, in ascending order. A class has the final weight of its least member and its arcs, in order, which lead to
-- the classes of their ends.
pub record HasClasses (m c : Machine Cost) : Type 0 where
  -- the class of each state of m, and the least member of each class
  pub class : List ℕ
  pub least : List ℕ
  pub classes : length class ≡ length m.states
  pub states : length c.states ≡ length least
  pub alike : (p q i j : ℕ) → slice_get class p ≡ Some i → slice_get class q ≡ Some j → (i ≡ j) ↔ Alike (graph_of m) (graph_of m) p q
  pub member : (i p : ℕ) → slice_get least i ≡ Some p → slice_get class p ≡ Some i
  pub first : (p i : ℕ) → slice_get class p ≡ Some i → (q : ℕ) × (slice_get least i ≡ Some q) × (q ≤ p)
  pub ascending : (i j p q : ℕ) → i < j → slice_get least i ≡ Some p → slice_get least j ≡ Some q → p < q
  pub start : c.start ≡ option_map (λ p. get_or class p 0) m.start
  pub final : (i p : ℕ) → slice_get least i ≡ Some p → (graph_of c).final i ≡ (graph_of m).final p
  pub arcs : (i p : ℕ) → slice_get least i ≡ Some p → (graph_of c).arcs i ≡ map (renamed (λ q. get_or class q 0)) ((graph_of m).arcs p)

-- the state that stands for a class, by one of its members
abbrev pub class_state : Machine Cost → List ℕ → ℕ → State Cost
class_state m numbers p = record { final = (graph_of m).final p; arcs = map (renamed (λ q. get_or numbers q 0)) ((graph_of m).arcs p) }

-- the machine of the classes, by the numbers of the states and the members that stand for the classes
abbrev pub class_machine : Machine Cost → List ℕ → List ℕ → Machine Cost
class_machine m numbers least = record { start = option_map (λ p. get_or numbers p 0) m.start; states = map (class_state m numbers) least }
