use Rattle.std.proofs.Common.{◌≡◌, ◌+◌, ◌≤◌, ◌++◌, map, sym, subst}
use Rattle.fst_semiring.specs.Cost.{Cost}
use Rattle.fst_machine.specs.Machine.{State, arc_total, most_arcs, valued_state}
use Rattle.fst_rational.proofs.carry.put_carried.Goals as goal

pub push_states-requires-clause-room : goal.push_states-requires-clause-room
push_states-requires-clause-room g c =
    let states = map (valued_state g.W.Weight.value) c.args.fst.now.states in
    subst (λ (goes : State Cost → State Cost). arc_total c.args.list.now + arc_total (map goes states) ≤ most_arcs) (c.only_shifts.ensures c.if-only_shifts.true) c.requires.room

pub returns-in_ok-push_states : goal.returns-in_ok-push_states
returns-in_ok-push_states g c =
    let value = g.W.Weight.value in
    let states = map (valued_state value) c.args.fst.now.states in
    subst (λ (goes : State Cost → State Cost). map (valued_state value) c.push_states.new.list ≡ map (valued_state value) c.args.list.now ++ map goes states) (sym (c.only_shifts.ensures c.if-only_shifts.true)) c.in_ok-push_states.ensures
