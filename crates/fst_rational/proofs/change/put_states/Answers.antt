use Rattle.std.proofs.Common.{map}
use Rattle.fst_machine.specs.Machine.{valued_state}
use Rattle.fst_rational.specs.Changing.{changed_state}
use Rattle.fst_rational.proofs.States.{state_fits, state_put}
use Rattle.fst_rational.proofs.change.put_states.Goals as goal

pub put_state-requires-clause-room : goal.put_state-requires-clause-room
put_state-requires-clause-room g c =
    let change = changed_state (g.C.Change.changed_arc c.args.change.now) (g.C.Change.changed_final c.args.change.now) (g.C.Change.target c.args.change.now) in
    state_fits g.W.Weight.value change c.args.fst.now.states c.loop-state.state c.final_weight.result c.arcs.result.now c.final_weight.ensures c.arcs.ensures c.args.states.now c.loop-state.states c.loop-state.invariant c.requires.room

pub loop-state-preserved : goal.loop-state-preserved
loop-state-preserved g c =
    let value = g.W.Weight.value in
    let change = changed_state (g.C.Change.changed_arc c.args.change.now) (g.C.Change.changed_final c.args.change.now) (g.C.Change.target c.args.change.now) in
    state_put value change c.args.fst.now.states c.loop-state.state c.final_weight.result c.arcs.result.now c.final_weight.ensures c.arcs.ensures (map (valued_state value) c.args.states.now) c.loop-state.states c.put_state.new.states c.loop-state.invariant c.in_ok-put_state.ensures
