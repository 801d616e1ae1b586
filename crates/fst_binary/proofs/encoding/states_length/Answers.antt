use Rattle.std.proofs.Common.{All, ◌≡◌, ◌≢◌, subst, take, ◌+◌, length, map, drop, arith}
use Rattle.std.specs.List.{flat_map}
use Rattle.std.proofs.lemmas.List.{take_all}
use Rattle.std.proofs.lemmas.List.Elements.{All-nil}
use Rattle.fst_semiring.specs.Cost.{Cost, infinite}
use Rattle.fst_machine.specs.Machine.{State, valued_arc, valued_state}
use Rattle.fst_binary.specs.Spelling.{HasFields, state_fields}
use Rattle.fst_machine.proofs.Valued.{arc_total-valued}
use Rattle.fst_binary.proofs.Lists.{arcs_from, nothing_left, state_has, state_left, state_more}
use Rattle.fst_bytes.proofs.Lists.{item_counted}
use Rattle.fst_binary.proofs.Lengths.{length-state_fields}
use Rattle.fst_binary.proofs.encoding.states_length.Goals as goal

pub loop-state-init : goal.loop-state-init
loop-state-init g c =
    let few = arc_total-valued g.W.Weight.value (g.S.States.states c.args.states.now) in
    record {
      counted = omega arith;
      fits = All-nil (HasFields g.W.Weight.value g.W.Weight.KIND);
      few = omega (arith, few, c.requires.few_arcs);
      bound = omega (arith, few);
    }

pub arcs_length-requires : goal.arcs_length-requires
arcs_length-requires g c =
    let total = arcs_from g.W.Weight.value (g.S.States.states c.args.states.now) c.loop-state.state c.final_at.result c.arcs_at.result.now c.final_at.ensures c.arcs_at.ensures in
    record {
      few = omega (arith, total, c.loop-state.invariant.few);
      weights = state_has (λ s. All (λ a. g.W.Weight.value a.weight ≢ infinite) s.arcs) (g.S.States.states c.args.states.now) c.loop-state.state c.final_at.result c.arcs_at.result.now c.final_at.ensures c.arcs_at.ensures c.requires.weights;
    }

pub overflow_add-len-in-loop-state-2 : goal.overflow_add-len-in-loop-state-2
overflow_add-len-in-loop-state-2 g c =
    let total = arcs_from g.W.Weight.value (g.S.States.states c.args.states.now) c.loop-state.state c.final_at.result c.arcs_at.result.now c.final_at.ensures c.arcs_at.ensures in
    omega (arith, total, c.loop-state.invariant.bound, c.weight_length.ensures.bound, c.arcs_length.ensures.bound, c.loop-state.auto.state-end, c.requires.few_states, c.requires.few_arcs)

pub overflow_add-len-in-loop-state : goal.overflow_add-len-in-loop-state
overflow_add-len-in-loop-state g c =
    let total = arcs_from g.W.Weight.value (g.S.States.states c.args.states.now) c.loop-state.state c.final_at.result c.arcs_at.result.now c.final_at.ensures c.arcs_at.ensures in
    omega (arith, total, c.loop-state.invariant.few, c.weight_length.ensures.bound, c.arcs_length.ensures.bound)

pub loop-state-preserved : goal.loop-state-preserved
loop-state-preserved g c =
    let value = g.W.Weight.value in
    let fields = state_fields g.W.Weight.KIND in
    let i = c.loop-state.state in
    let own = g.S.States.states c.args.states.now in
    let states = map (valued_state value) own in
    let state : State Cost = record { final = value c.final_at.result; arcs = map (valued_arc value) c.arcs_at.result.now } in
    let left = state_left value own i c.final_at.result c.arcs_at.result.now c.final_at.ensures c.arcs_at.ensures in
    let total = arcs_from value own i c.final_at.result c.arcs_at.result.now c.final_at.ensures c.arcs_at.ensures in
    let counted = item_counted fields c.loop-state.len state (drop (i + 1) states) (drop i states) (length (flat_map fields states)) left c.loop-state.invariant.counted in
    let long = length-state_fields g.W.Weight.KIND state in
    record {
      counted = omega (arith, counted, long, c.weight_length.ensures.value, c.arcs_length.ensures.value);
      fits = state_more (HasFields value g.W.Weight.KIND) own i c.final_at.result c.arcs_at.result.now c.final_at.ensures c.arcs_at.ensures c.loop-state.invariant.fits (c.weight_length.ensures.fits, c.arcs_length.ensures.fits);
      few = omega (arith, total, c.loop-state.invariant.few);
      bound = omega (arith, total, c.loop-state.invariant.bound, c.weight_length.ensures.bound, c.arcs_length.ensures.bound);
    }

pub returns-clause-value : goal.returns-clause-value
returns-clause-value g c =
    let own = g.S.States.states c.args.states.now in
    nothing_left (state_fields g.W.Weight.KIND) (valued_state g.W.Weight.value) c.loop-state.len c.loop-state.state own (omega (arith, c.loop-state-test.false, c.requires.all)) c.loop-state.invariant.counted

pub returns-clause-bound : goal.returns-clause-bound
returns-clause-bound g c = omega (arith, c.loop-state.invariant.bound, c.loop-state.auto.state-end)

pub returns-clause-fits : goal.returns-clause-fits
returns-clause-fits g c =
    let own = g.S.States.states c.args.states.now in
    let whole : take c.loop-state.state own ≡ own = take_all c.loop-state.state own (omega (arith, c.loop-state-test.false, c.requires.all)) in
    subst (λ ss. All (HasFields g.W.Weight.value g.W.Weight.KIND) ss) whole c.loop-state.invariant.fits
