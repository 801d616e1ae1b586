-- Weights pushed toward the start. (Mohri 2009, section 3.4, weight pushing: with d the distance to the final states,
-- the weight w of an arc from p to q becomes w Times d(q) divided by d(p), and a final weight is divided by d(p). That
-- equal values give One, also where factors do not cancel, is this project's own rule.)
use Rattle.std.specs.Prelude.{◌≡◌, ℕ, ◌+◌, ◌<◌, List, [], ◌∷◌, Option, None, Some, length, map, slice_get}
use Rattle.fst_semiring.specs.Cost.{Cost, infinite}
use Rattle.fst_semiring.specs.declared.arc_type.ArcType.{ArcType}
use Rattle.fst_semiring.specs.Semiring.{times, IsCost}
use Rattle.fst_semiring.specs.Division.{push_quotient}
use Rattle.fst_machine.specs.Machine.{Arc, State, Machine}
use Rattle.fst_machine.specs.Graph.{Graph, graph_of}
use Rattle.fst_machine.specs.Connected.{IsConnected}
use Rattle.fst_machine.specs.Distance.{IsFinalDistance}

-- the arc with the value of its end multiplied on, divided by a value
abbrev pub pushed_by : {N : Type 0} → ArcType → (N → Cost) → Cost → Arc Cost N → Arc Cost N
pushed_by kind d own a = record { ilabel = a.ilabel; olabel = a.olabel; weight = push_quotient kind (times kind a.weight (d a.next)) own; next = a.next }

-- the arc of a name with its weight pushed
abbrev pub pushed_arc : {N : Type 0} → ArcType → (N → Cost) → N → Arc Cost N → Arc Cost N
pushed_arc kind d p a = pushed_by kind d (d p) a

-- In h the weights of g are pushed by d, at each name that is meant; arcs do not leave these.
pub record Pushes {N : Type 0} (kind : ArcType) (d : N → Cost) (g h : Graph N) (D : N → Type 0) : Type 0 where
  pub start : h.start ≡ g.start
  pub begins : (p : N) → g.start ≡ Some p → D p
  pub within : (p : N) (k : ℕ) (a : Arc Cost N) → D p → slice_get (g.arcs p) k ≡ Some a → D a.next
  pub arcs : (p : N) → D p → h.arcs p ≡ map (pushed_arc kind d p) (g.arcs p)
  pub final : (p : N) → D p → h.final p ≡ push_quotient kind (g.final p) (d p)

-- the value of the start, Zero where there is none
abbrev pub value_at : (ℕ → Cost) → Option ℕ → Cost
value_at d None = infinite
value_at d (Some p) = d p

-- the states with their weights pushed, the first of them with this number
abbrev pub pushed_from : ArcType → (ℕ → Cost) → ℕ → List (State Cost) → List (State Cost)
pushed_from kind d p [] = []
pushed_from kind d p (s ∷ states) = record { final = push_quotient kind s.final (d p); arcs = map (pushed_arc kind d p) s.arcs }
    ∷ pushed_from kind d (p + 1) states

-- the machine with its weights pushed
abbrev pub pushed_machine : ArcType → (ℕ → Cost) → Machine Cost → Machine Cost
pushed_machine kind d m = record { start = m.start; states = pushed_from kind d 0 m.states }

-- r is the connected machine of m with its weights pushed by its distances to the final states, and the total is the
-- distance of its start.
pub record IsPushed (kind : ArcType) (m r : Machine Cost) (total : Cost) : Type 0 where
  pub connected : Machine Cost
  pub distances : ℕ → Cost
  pub trims : IsConnected m connected
  pub distance : (p : ℕ) → p < length connected.states → IsFinalDistance kind (graph_of connected) p (distances p)
  pub of_kind : (p : ℕ) → p < length connected.states → IsCost kind (distances p)
  pub states : length r.states ≡ length connected.states
  pub pushes : Pushes kind distances (graph_of connected) (graph_of r) (λ p. p < length connected.states)
  pub start : total ≡ value_at distances connected.start
