use Rattle.std.proofs.Common.{◌≡◌, ◌<◌, filter, length, sym, ap, ◌∙◌, arith}
use Rattle.fst_machine.specs.Machine.{State, most_arcs}
use Rattle.fst_machine.proofs.Valued.{stands}
use Rattle.fst_distance.specs.Values.{value_in}
use Rattle.fst_distance.proofs.Lists.{value_read}
use Rattle.fst_select.specs.Thinned.{arc_passes, last_of}
use Rattle.fst_select.proofs.ThinnedMachine.{room_for, thinned_next}
use Rattle.fst_select.proofs.thinning.thin_states.Given.{Over}
use Rattle.fst_select.proofs.thinning.thin_states.Goals.{After-as_slice}
use Rattle.fst_select.proofs.thinning.thin_states.Goals as goal

-- the state that is looked at, its distance from the start, and the arcs that are kept
abbrev state_at : (g : Over) (c : After-as_slice g) → State g.row.W.Denot
state_at g c = record { final = c.final_weight.result; arcs = c.arcs.result.now }

own_is : (g : Over) (c : After-as_slice g) → value_in g.W.Weight.wide_value c.args.from_start.now c.loop-state.state ≡ g.W.Weight.wide_value c.index-from_start-state.result
own_is g c =
    let low : c.loop-state.state < length c.args.from_start.now = omega (arith, c.loop-state-test.true, c.states-state-end.ensures.value, c.requires.start_size) in
    value_read g.W.Weight.wide_value c.args.from_start.now c.loop-state.state c.index-from_start-state.result low c.index-from_start-state.is

arcs_are : (g : Over) (c : After-as_slice g) → c.as_slice.result.now ≡ filter (arc_passes g.W.Weight.value g.W.Weight.KIND (g.W.Weight.wide_value c.args.bound) (value_in g.W.Weight.wide_value c.args.to_finals.now) (value_in g.W.Weight.wide_value c.args.from_start.now c.loop-state.state)) c.arcs.result.now
arcs_are g c =
    let w = g.W.Weight in
    c.as_slice.ensures.value ∙ (c.in_ok-keep_arcs.ensures ∙ ap (λ o. filter (arc_passes w.value w.KIND (w.wide_value c.args.bound) (value_in w.wide_value c.args.to_finals.now) o) c.arcs.result.now) (sym (own_is g c)))

pub push-requires : goal.push-requires
push-requires g c =
    let at = (goal.at.push-requires g c).After-as_slice in
    let w = g.W.Weight in
    room_for w.value c.args.none w.KIND (w.wide_value c.args.bound) (value_in w.wide_value c.args.from_start.now) (value_in w.wide_value c.args.to_finals.now) c.args.fst.now.states c.loop-state.states c.loop-state.state most_arcs (state_at g at) c.as_slice.result.now
    (stands c.args.fst.now.states c.loop-state.state c.final_weight.result c.arcs.result.now c.final_weight.ensures c.arcs.ensures) (arcs_are g at) c.loop-state.invariant c.states.ensures.machine.few_arcs

pub loop-state-preserved : goal.loop-state-preserved
loop-state-preserved g c =
    let at = (goal.at.loop-state-preserved g c).After-as_slice in
    let w = g.W.Weight in
    thinned_next w.value c.args.none w.KIND (w.wide_value c.args.bound) (value_in w.wide_value c.args.from_start.now) (value_in w.wide_value c.args.to_finals.now) c.args.fst.now.states c.loop-state.states c.push.new.self c.loop-state.state (state_at g at) c.last_weight-last.result c.as_slice.result.now
    (stands c.args.fst.now.states c.loop-state.state c.final_weight.result c.arcs.result.now c.final_weight.ensures c.arcs.ensures)
    (c.last_weight-last.ensures ∙ ap (λ o. last_of w.value w.KIND (w.wide_value c.args.bound) c.args.none o c.final_weight.result) (sym (own_is g at))) (arcs_are g at) c.in_ok-push.ensures.ok c.loop-state.invariant
