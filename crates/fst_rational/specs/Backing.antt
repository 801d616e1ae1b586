-- Arcs that are put back where they lead, one after the other.
use Rattle.std.specs.Prelude.{ℕ, ◌+◌, suc, List, [], ◌∷◌, ◌++◌, length, map}
use Rattle.std.specs.List.{range_with_len}
use Rattle.fst_semiring.specs.Cost.{Cost, infinite}
use Rattle.fst_semiring.specs.declared.arc_type.ArcType.{ArcType}
use Rattle.fst_machine.specs.Machine.{Arc, State, Machine, changed, with_arc}
use Rattle.fst_rational.specs.Constructions.{start_weight}

-- the arc, with the same labels and weight, to the place q
abbrev pub back : {V : Type 0} → ℕ → Arc V ℕ → Arc V ℕ
back q a = record { ilabel = a.ilabel; olabel = a.olabel; weight = a.weight; next = q }

-- each of these arcs is put, back to q, behind those of the state one place beyond where it leads
abbrev pub put_back : ℕ → List (Arc Cost ℕ) → List (State Cost) → List (State Cost)
put_back q [] states = states
put_back q (a ∷ arcs) states = put_back q arcs (changed (with_arc (back q a)) states (1 + a.next))

-- the same for the arcs of each of these states, of which the first stands at q
abbrev pub put_all : ℕ → List (State Cost) → List (State Cost) → List (State Cost)
put_all q [] states = states
put_all q (s ∷ rest) states = put_all (suc q) rest (put_back q s.arcs states)

-- a state that has no arcs yet
abbrev pub turned_bare : ArcType → Machine Cost → ℕ → State Cost
turned_bare kind a r = record { final = start_weight kind a.start r; arcs = [] }

-- the states of a reversal that have no arcs yet
abbrev pub bare_states : ArcType → Machine Cost → List (State Cost)
bare_states kind a = record { final = infinite; arcs = [] } ∷ map (turned_bare kind a) (range_with_len 0 (length a.states))

-- the state with these arcs behind its own
abbrev pub with_more : List (Arc Cost ℕ) → State Cost → State Cost
with_more arcs s = record { final = s.final; arcs = s.arcs ++ arcs }

-- each of these arcs is counted one place beyond where it leads
abbrev pub counted_back : {V : Type 0} → List (Arc V ℕ) → List ℕ → List ℕ
counted_back [] counts = counts
counted_back (a ∷ arcs) counts = counted_back arcs (changed (λ n. n + 1) counts (1 + a.next))
