use Rattle.std.proofs.Common.{◌≡◌, ◌+◌, ◌≤◌, drop, get_or, length, map}
use Rattle.fst_machine.specs.Machine.{changed, valued_state}
use Rattle.fst_machine.specs.Placing.{arc_counts}
use Rattle.fst_rational.specs.Backing.{with_more}
use Rattle.fst_rational.specs.Constructions.{final_arcs}
use Rattle.fst_rational.proofs.reversal.put_finals.Given as goal

abbrev pub invariant-loop-state : goal.invariant-loop-state
invariant-loop-state g l =
    let value = g.W.Weight.value in
    let states = map (valued_state value) l.a.states in
    let rest = final_arcs (l.state + 1) (drop l.state states) in
    record {
      states : changed (with_more rest) (map (valued_state value) l.states.states) 0 ≡ changed (with_more (final_arcs 1 states)) (map (valued_state value) l.initial.states.states) 0;
      room : get_or (arc_counts l.states.states) 0 0 + length rest ≤ get_or l.states.rooms 0 0;
      rooms : l.states.rooms ≡ l.initial.states.rooms;
      left : l.states.left ≡ l.initial.states.left;
    }
