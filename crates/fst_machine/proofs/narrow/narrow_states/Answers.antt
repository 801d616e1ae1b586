use Rattle.std.proofs.Common.{◌≡◌, ◌≤◌, length, subst, arith}
use Rattle.std.specs.List.{All}
use Rattle.std.proofs.lemmas.List.{length-map, take_all}
use Rattle.std.proofs.lemmas.Bool.Decides.{not_from_Decides}
use Rattle.fst_machine.specs.Machine.{valued, valued_state}
use Rattle.fst_machine.specs.Narrowing.{IsInRange}
use Rattle.fst_machine.proofs.Narrowing.{state_in_range, state_past, state_put, state_room}
use Rattle.fst_machine.proofs.narrow.narrow_states.Goals as goal

pub narrow_state-requires : goal.narrow_state-requires
narrow_state-requires g c = state_room g.W.Weight.value g.W.Weight.wide_value c.args.wide.now c.loop-state.state c.final_weight-last.result c.arcs.result.now c.final_weight-last.ensures c.arcs.ensures c.loop-state.list c.loop-state.invariant.states c.states-states.ensures.machine.few_arcs

pub returns-then-not-branch-clause-fault : goal.returns-then-not-branch-clause-fault
returns-then-not-branch-clause-fault g c = state_past g.W.Weight.value g.W.Weight.wide_value c.args.wide.now c.loop-state.state c.final_weight-last.result c.arcs.result.now c.final_weight-last.ensures c.arcs.ensures c.loop-state.invariant.range (not_from_Decides _ c.in_ok-narrow_state.ensures.fits c.if-not-branch.true)

pub loop-state-preserved : goal.loop-state-preserved
loop-state-preserved g c = record {
  states = state_put g.W.Weight.value g.W.Weight.wide_value c.args.wide.now c.loop-state.state c.final_weight-last.result c.arcs.result.now c.final_weight-last.ensures c.arcs.ensures c.loop-state.list c.narrow_state.new.list c.loop-state.invariant.states (c.in_ok-narrow_state.ensures.list c.if-not-branch.false);
  range = state_in_range g.W.Weight.value g.W.Weight.wide_value c.args.wide.now c.loop-state.state c.final_weight-last.result c.arcs.result.now c.final_weight-last.ensures c.arcs.ensures c.loop-state.invariant.range (c.in_ok-narrow_state.ensures.fits.0 c.if-not-branch.false);
}

pub returns-clause-fits : goal.returns-clause-fits
returns-clause-fits g c =
    let states = (valued g.W.Weight.wide_value c.args.wide.now).states in
    let count : length states ≡ length c.args.wide.now.states = length-map c.args.wide.now.states (valued_state g.W.Weight.wide_value) in
    let high : length states ≤ c.loop-state.state = omega (arith, count, c.states-states.ensures.value, c.loop-state-test.false) in
    subst (λ ss. All IsInRange ss) (take_all c.loop-state.state states high) c.loop-state.invariant.range
