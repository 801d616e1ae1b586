use Rattle.std.proofs.Common.{arith}
use Rattle.fst_rational.proofs.States.{goings_more}
use Rattle.fst_rational.proofs.change.count_onward.Goals as goal

pub loop-state-preserved : goal.loop-state-preserved
loop-state-preserved g c =
    let more = goings_more g.W.Weight.value c.args.target c.args.fst.now.states c.loop-state.state c.final_weight.result c.final_weight.ensures in
    record {
      counted = omega (arith, more, c.goes_on-count.ensures.count, c.loop-state.invariant.counted);
      few = omega (arith, c.goes_on-count.ensures.one, c.loop-state.invariant.few);
    }
