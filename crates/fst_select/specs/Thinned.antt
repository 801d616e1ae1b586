-- A machine with the arcs and final weights alone whose best paths are within a bound, by the distances of its states.
use Rattle.std.specs.Prelude.{ℕ, ◌+◌, Bool, false, cond, not, List, [], ◌∷◌, filter}
use Rattle.std.specs.Ordering.{is_lt}
use Rattle.fst_semiring.specs.Cost.{Cost, cost_cmp, is_infinite}
use Rattle.fst_semiring.specs.declared.arc_type.ArcType.{ArcType}
use Rattle.fst_semiring.specs.Semiring.{times}
use Rattle.fst_machine.specs.Machine.{Arc, Machine, State}

-- a distance has numbers of at most this absolute value: as many states as there can be, each with the greatest number of
-- a weight
abbrev pub most_sum : ℕ
most_sum = 4194304000000000000000000

-- whether a weight stands, and the bound is not better
abbrev pub is_within : Cost → Cost → Bool
is_within bound w = cond (is_infinite w) false (not (is_lt (cost_cmp bound w)))

-- A best path by an arc is one from the start to its state, the arc, and one from its end to a final state.
module _ {V : Type 0} (value : V → Cost) (kind : ArcType) (bound : Cost) where
  -- whether the best paths by an arc are within the bound, where its state has this distance from the start
  abbrev pub arc_passes : (ℕ → Cost) → Cost → Arc V ℕ → Bool
  arc_passes d own a = is_within bound (times kind own (times kind (value a.weight) (d a.next)))

  -- the final weight, where the best paths that end with it are within the bound; else Zero
  abbrev pub last_of : V → Cost → V → V
  last_of zero own v = cond (is_within bound (times kind own (value v))) v zero

  module _ (zero : V) (s d : ℕ → Cost) where
    abbrev pub thinned_state : ℕ → State V → State V
    thinned_state p t = record { final = last_of zero (s p) t.final; arcs = filter (arc_passes d (s p)) t.arcs }

    -- these states, of which the first has this number
    abbrev pub thinned_states : ℕ → List (State V) → List (State V)
    thinned_states at [] = []
    thinned_states at (t ∷ states) = thinned_state at t ∷ thinned_states (at + 1) states

    abbrev pub thinned : Machine V → Machine V
    thinned m = record { start = m.start; states = thinned_states 0 m.states }
