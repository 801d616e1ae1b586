use Rattle.std.proofs.Common.{None, map, true}
use Rattle.fst_machine.specs.Machine.{valued_state}
use Rattle.fst_rational.specs.Constructions.{carried}
use Rattle.fst_rational.proofs.States.{state_fits, state_put}
use Rattle.fst_rational.proofs.carry.push_states.Goals as goal

pub push_state-requires-clause-room : goal.push_state-requires-clause-room
push_state-requires-clause-room g c = state_fits g.W.Weight.value (carried c.args.by true None) c.args.fst.now.states c.loop-state.state c.final_weight.result c.arcs.result.now c.final_weight.ensures c.arcs.ensures c.args.list.now c.loop-state.list c.loop-state.invariant c.requires.room

pub loop-state-preserved : goal.loop-state-preserved
loop-state-preserved g c =
    let value = g.W.Weight.value in
    state_put value (carried c.args.by true None) c.args.fst.now.states c.loop-state.state c.final_weight.result c.arcs.result.now c.final_weight.ensures c.arcs.ensures (map (valued_state value) c.args.list.now) c.loop-state.list c.push_state.new.list c.loop-state.invariant c.in_ok-push_state.ensures
