use Rattle.std.proofs.Common.{◌<◌, length, get_or, sym, ap, ◌∙◌, arith}
use Rattle.fst_machine.specs.Graph.{no_state}
use Rattle.fst_machine.specs.Machine.{arc_total, changed}
use Rattle.fst_machine.proofs.Valued.{arc_total-valued}
use Rattle.fst_distance.specs.Filling.{filled}
use Rattle.fst_distance.proofs.Filling.{fill_next, part_room, part_size, seen_size}
use Rattle.fst_distance.proofs.widening.filled_states.Goals as goal

pub fill_state-requires-clause-size : goal.fill_state-requires-clause-size
fill_state-requires-clause-size g c = sym (seen_size g.W.Weight.wide_value c.loop-state.machine.states) ∙ (ap length c.loop-state.invariant.states ∙ part_size c.args.pushed.now.states c.loop-state.state)

pub fill_state-requires-clause-room : goal.fill_state-requires-clause-room
fill_state-requires-clause-room g c =
    let w = g.W.Weight in
    let states = c.args.pushed.now.states in
    let low : c.loop-state.state < length states = let a = c.loop-state-test.true in let b = c.states-states.ensures.value in omega arith in
    let room = part_room states c.loop-state.state low in
    let now = sym (arc_total-valued w.wide_value c.loop-state.machine.states) ∙ ap arc_total c.loop-state.invariant.states in
    omega (arith, room, now, c.states-states.ensures.machine.few_arcs)

pub loop-state-preserved : goal.loop-state-preserved
loop-state-preserved g c =
    let states = c.args.pushed.now.states in
    let i = c.loop-state.state in
    let low : i < length states = let a = c.loop-state-test.true in let b = c.states-states.ensures.value in omega arith in
    record {
      states = c.in_ok-fill_state.ensures.states ∙ (ap (λ ss. changed (filled (get_or states i no_state)) ss i) c.loop-state.invariant.states ∙ fill_next states i low);
      start = c.in_ok-fill_state.ensures.start ∙ c.loop-state.invariant.start;
    }
