use Rattle.std.proofs.Common.{ℕ, List, ◌++◌, ap, ◌∙◌, arith}
use Rattle.fst_machine.specs.Machine.{Arc, most_arcs}
use Rattle.fst_machine.proofs.Walking.{nexts_within}
use Rattle.fst_machine.specs.Renumbered.{marked_arcs}
use Rattle.fst_trim.proofs.Trimming.{skip_state, keep_state, room_for}
use Rattle.fst_trim.proofs.connected.keep_states.Goals as goal

pub loop-state-preserved-then-not-marks-state : goal.loop-state-preserved-then-not-marks-state
loop-state-preserved-then-not-marks-state g c =
    let step = skip_state c.args.marks.now c.args.numbers.now c.args.fst.now.states c.loop-state.states c.loop-state.state (omega arith) c.if-not-marks-state.true c.loop-state.invariant.built c.loop-state.invariant.few in
    record { built = step.0; few = step.1 }

pub keep_arcs-requires-clause-marks : goal.keep_arcs-requires-clause-marks
keep_arcs-requires-clause-marks g c k d low =
    let within = nexts_within g.W.Weight.value c.args.fst.now c.loop-state.state c.arcs.result.now c.states-state-end.ensures.machine c.arcs.ensures in
    omega (arith, within k d low, c.requires.marks)

pub push-requires : goal.push-requires
push-requires g c = room_for c.args.marks.now c.args.numbers.now c.args.fst.now.states c.loop-state.states c.loop-state.state (omega arith) c.arcs.result.now c.as_slice.result.now most_arcs c.arcs.ensures (c.as_slice.ensures.value ∙ (c.in_ok-keep_arcs.ensures ∙ ap (λ (zs : List (Arc g.row.W.Denot ℕ)). zs ++ marked_arcs c.args.marks.now c.args.numbers.now c.arcs.result.now) c.clear.ensures.items)) c.loop-state.invariant.few c.states-state-end.ensures.machine.few_arcs

pub loop-state-preserved : goal.loop-state-preserved
loop-state-preserved g c =
    let step = keep_state c.args.marks.now c.args.numbers.now c.args.fst.now.states c.loop-state.states c.loop-state.state (omega arith) c.final_weight.result c.arcs.result.now c.as_slice.result.now c.push.new.self c.if-not-marks-state.false c.final_weight.ensures c.arcs.ensures (c.as_slice.ensures.value ∙ (c.in_ok-keep_arcs.ensures ∙ ap (λ (zs : List (Arc g.row.W.Denot ℕ)). zs ++ marked_arcs c.args.marks.now c.args.numbers.now c.arcs.result.now) c.clear.ensures.items)) c.in_ok-push.ensures.ok c.loop-state.invariant.built c.loop-state.invariant.few in
    record { built = step.0; few = step.1 }
