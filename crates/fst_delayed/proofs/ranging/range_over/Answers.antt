use Rattle.std.proofs.Common.{below_more, arith}
use Rattle.fst_delayed.proofs.Ranged.{ranged_all, ranged_at}
use Rattle.fst_delayed.proofs.ranging.range_over.Goals as goal

pub loop-state-preserved : goal.loop-state-preserved
loop-state-preserved g c = below_more _ _ c.loop-state.invariant (ranged_at g.W.Weight.value c.args.fst.now c.loop-state.state c.arcs.result.now c.arcs.ensures c.range_arcs.ensures)

pub returns : goal.returns
returns g c = ranged_all g.W.Weight.value c.args.fst.now (λ p low. c.loop-state.invariant p (omega (arith, low, c.states-state-end.ensures.value)))
