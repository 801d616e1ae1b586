use Rattle.std.proofs.Common.{arith}
use Rattle.fst_machine.specs.Machine.{most_arcs}
use Rattle.fst_trim.specs.Counted.{has_input_epsilon, has_output_epsilon, has_both_epsilons}
use Rattle.fst_trim.proofs.Epsilons.{state_more, state_room}
use Rattle.fst_trim.proofs.describing.count_epsilons.Goals as goal

pub add_arcs-epsilons-requires-clause-input : goal.add_arcs-epsilons-requires-clause-input
add_arcs-epsilons-requires-clause-input g c = let room = state_room has_input_epsilon c.args.fst.now.states c.loop-state.state most_arcs c.arcs.result.now c.arcs.ensures c.states-state-end.ensures.machine.few_arcs in omega (arith, c.loop-state.invariant.input)

pub add_arcs-epsilons-requires-clause-output : goal.add_arcs-epsilons-requires-clause-output
add_arcs-epsilons-requires-clause-output g c = let room = state_room has_output_epsilon c.args.fst.now.states c.loop-state.state most_arcs c.arcs.result.now c.arcs.ensures c.states-state-end.ensures.machine.few_arcs in omega (arith, c.loop-state.invariant.output)

pub add_arcs-epsilons-requires-clause-both : goal.add_arcs-epsilons-requires-clause-both
add_arcs-epsilons-requires-clause-both g c = let room = state_room has_both_epsilons c.args.fst.now.states c.loop-state.state most_arcs c.arcs.result.now c.arcs.ensures c.states-state-end.ensures.machine.few_arcs in omega (arith, c.loop-state.invariant.both)

pub loop-state-preserved : goal.loop-state-preserved
loop-state-preserved g c =
    let states = c.args.fst.now.states in
    let k = c.loop-state.state in
    let input = state_more has_input_epsilon states k c.arcs.result.now c.arcs.ensures in
    let output = state_more has_output_epsilon states k c.arcs.result.now c.arcs.ensures in
    let both = state_more has_both_epsilons states k c.arcs.result.now c.arcs.ensures in
    record {
      input = omega (arith, input, c.add_arcs-epsilons.ensures.input, c.loop-state.invariant.input);
      output = omega (arith, output, c.add_arcs-epsilons.ensures.output, c.loop-state.invariant.output);
      both = omega (arith, both, c.add_arcs-epsilons.ensures.both, c.loop-state.invariant.both);
    }
