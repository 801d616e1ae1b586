use Rattle.std.proofs.Common.{◌++◌, ◌∷◌, [], length, sym, ap, ◌∙◌, arith}
use Rattle.fst_machine.specs.Graph.{no_state}
use Rattle.fst_distance.proofs.Filling.{bare_next, bare_size, seen_size}
use Rattle.fst_distance.proofs.widening.bare_states.Goals as goal

pub add_state-requires : goal.add_state-requires
add_state-requires g c =
    let w = g.W.Weight in
    let few = c.states-states.ensures.machine.few_states in
    let count = c.states-states.ensures.value in
    let low = c.loop-test.true in
    let now = sym (seen_size w.wide_value c.loop.machine.states) ∙ (ap length c.loop.invariant.states ∙ bare_size c.args.pushed.now.states c.loop.counter (omega (arith, low, count))) in
    omega (arith, few, count, low, now)

pub loop-preserved : goal.loop-preserved
loop-preserved g c =
    let w = g.W.Weight in
    let count = c.states-states.ensures.value in
    let low = c.loop-test.true in
    record {
      states = c.in_ok-add_state.ensures.states ∙ (ap (λ ss. ss ++ no_state ∷ []) c.loop.invariant.states ∙ bare_next c.args.pushed.now.states c.loop.counter (omega (arith, low, count)));
      start = c.in_ok-add_state.ensures.start ∙ c.loop.invariant.start;
    }
