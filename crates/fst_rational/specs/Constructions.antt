-- The machines of the rational operations. (Mohri 2009, section 3.1: union, concatenation and closure join
-- machines by epsilon arcs. Which states and arcs there are, in which order, is this project's own choice.)
use Rattle.std.specs.Prelude.{ℕ, ◌+◌, ◌==◌, suc, if◌then◌else◌, Bool, true, false, List, [], ◌∷◌, ◌++◌, length, map, Option, None, Some}
use Rattle.std.specs.Option.{option_map}
use Rattle.std.specs.List.{range_with_len}
use Rattle.fst_semiring.specs.Cost.{Cost, infinite}
use Rattle.fst_semiring.specs.declared.arc_type.ArcType.{ArcType}
use Rattle.fst_semiring.specs.Semiring.{one_of}
use Rattle.fst_machine.specs.Machine.{Arc, State, Machine, valued_arc, valued_state}
use Rattle.fst_machine.specs.Graph.{renamed}
use Rattle.fst_machine.specs.Continuing.{epsilon_arc, leaving}
use Rattle.fst_rational.specs.declared.change.Carrying.{Carrying}
use Rattle.fst_rational.specs.Changing.{changed_state}

-- the final weight, where it stays
abbrev pub kept : Bool → Cost → Cost
kept true w = w
kept false w = infinite

-- A state of an operand, k places further on: its arcs lead k places further on, its final weight stays or
-- not, and behind its arcs stands the epsilon arc with its final weight to the target, where it is final and
-- there is a target.
abbrev pub carried : ℕ → Bool → Option ℕ → State Cost → State Cost
carried k keeps target = changed_state (renamed (λ p. k + p)) (kept keeps) target

-- the states, behind a new start with this final weight and these arcs where there is one
abbrev pub headed : {V : Type 0} → (V → Cost) → Option V → List (Arc V ℕ) → List (State Cost) → List (State Cost)
headed value None arcs states = states
headed value (Some last) arcs states = record { final = value last; arcs = map (valued_arc value) arcs } ∷ states

-- the states of an operand, carried over, behind a new start where there is one
abbrev pub carried_states : {V : Type 0} → (V → Cost) → Option V → List (Arc V ℕ) → Carrying → Machine V → List (State Cost)
carried_states value head arcs how m = headed value head arcs (map (carried how.shift how.keeps how.target) (map (valued_state value) m.states))

-- the machine with this start and the states of two operands: those of the one so, and behind them those of the other, k
-- places further on
abbrev pub both_of : {V : Type 0} → (V → Cost) → Option ℕ → Option V → List (Arc V ℕ) → Carrying → ℕ → Machine V → Machine V → Machine Cost
both_of value start head arcs how k a b = record { start = start; states = carried_states value head arcs how a ++ map (carried k true None) (map (valued_state value) b.states) }

-- the epsilon arc with weight One to the start of an operand whose states stand k places further on
abbrev pub entry : ArcType → ℕ → Option ℕ → List (Arc Cost ℕ)
entry kind k None = []
entry kind k (Some s) = epsilon_arc (one_of kind) (k + s) ∷ []

-- the new start of a union, which is not final and enters both
abbrev pub union_start : ArcType → Machine Cost → Machine Cost → State Cost
union_start kind a b = record { final = infinite; arcs = entry kind 1 a.start ++ entry kind (length a.states + 1) b.start }

-- Union: a new start, which is not final and enters both; then the states of a, then those of b.
abbrev pub union_of : ArcType → Machine Cost → Machine Cost → Machine Cost
union_of kind a b = record {
  start = Some 0;
  states = union_start kind a b ∷ (map (carried 1 true None) a.states ++ map (carried (length a.states + 1) true None) b.states);
}

-- Concatenation: the states of a, which are not final and go on to the start of b; then those of b.
abbrev pub concat_of : Machine Cost → Machine Cost → Machine Cost
concat_of a b = record {
  start = a.start;
  states = map (carried 0 false (option_map (λ s. length a.states + s) b.start)) a.states ++ map (carried (length a.states) true None) b.states;
}

-- the new start of a star, which is final with weight One and enters a
abbrev pub star_start : ArcType → Machine Cost → State Cost
star_start kind a = record { final = one_of kind; arcs = entry kind 1 a.start }

-- Star: a new start, which is final with weight One and enters a; then the states of a, which are not final
-- and go on to the new start.
abbrev pub star_of : ArcType → Machine Cost → Machine Cost
star_of kind a = record {
  start = Some 0;
  states = star_start kind a ∷ map (carried 1 false (Some 0)) a.states;
}

-- Plus: the states of a, which stay final and go on to the start.
abbrev pub plus_of : Machine Cost → Machine Cost
plus_of a = record {
  start = a.start;
  states = map (carried 0 true a.start) a.states;
}

-- star, or plus
abbrev pub closure_of : ArcType → Bool → Machine Cost → Machine Cost
closure_of kind true a = plus_of a
closure_of kind false a = star_of kind a

-- the arcs that lead back from the place r to the place q: those of a state that lead to r, in order
abbrev pub arcs_back : ℕ → ℕ → List (Arc Cost ℕ) → List (Arc Cost ℕ)
arcs_back r q [] = []
arcs_back r q (a ∷ arcs) = if a.next == r then record { ilabel = a.ilabel; olabel = a.olabel; weight = a.weight; next = q } ∷ arcs_back r q arcs
    else arcs_back r q arcs

-- those of all states, by the place of the state, of which the first is q
abbrev pub turned_arcs : ℕ → ℕ → List (State Cost) → List (Arc Cost ℕ)
turned_arcs r q [] = []
turned_arcs r q (s ∷ states) = arcs_back r q s.arcs ++ turned_arcs r (suc q) states

-- the epsilon arcs with the final weights to the final states, of which the first stands at q
abbrev pub final_arcs : ℕ → List (State Cost) → List (Arc Cost ℕ)
final_arcs q [] = []
final_arcs q (s ∷ states) = leaving s.final q ++ final_arcs (suc q) states

-- One at the start, and Zero elsewhere
abbrev pub start_weight : ArcType → Option ℕ → ℕ → Cost
start_weight kind None r = infinite
start_weight kind (Some s) r = if r == s then one_of kind else infinite

-- what becomes of the state r: its arcs are those that led to it, and it is final where it was the start
abbrev pub turned_state : ArcType → Machine Cost → ℕ → State Cost
turned_state kind a r = record { final = start_weight kind a.start r; arcs = turned_arcs r 1 a.states }

-- Reversal: a new start, which is not final and enters each final state with its final weight; then the states
-- of a one place further on, with the arcs that led to them.
abbrev pub reverse_of : ArcType → Machine Cost → Machine Cost
reverse_of kind a = record {
  start = Some 0;
  states = record { final = infinite; arcs = final_arcs 1 a.states } ∷ map (turned_state kind a) (range_with_len 0 (length a.states));
}
