use Rattle.std.proofs.Common.{◌∙◌, arith}
use Rattle.std.proofs.lemmas.List.{take_all}
use Rattle.fst_machine.specs.Machine.{most_arcs}
use Rattle.fst_samples.proofs.Copying.{copied_more, copied_room, startless}
use Rattle.fst_samples.proofs.texts.without_start.Goals as goal

pub push-requires : goal.push-requires
push-requires g c = copied_room c.args.fst.now.states c.loop-state.state c.final_weight.result c.arcs.result.now c.final_weight.ensures c.arcs.ensures c.loop-state.list most_arcs c.loop-state.invariant c.states-states.ensures.machine.few_arcs

pub loop-state-preserved : goal.loop-state-preserved
loop-state-preserved g c = copied_more c.args.fst.now.states c.loop-state.state c.final_weight.result c.arcs.result.now c.final_weight.ensures c.arcs.ensures c.loop-state.list c.push.new.self c.loop-state.invariant c.in_ok-push.ensures.ok

pub into_machine-requires : goal.into_machine-requires
into_machine-requires g c =
    let states = c.args.fst.now.states in
    let all = take_all c.loop-state.state states (omega (arith, c.loop-state-test.false, c.states-states.ensures.value)) in
    startless g.W.Weight.value c.args.fst.now c.loop-state.list (c.loop-state.invariant ∙ all) c.states-states.ensures.machine
