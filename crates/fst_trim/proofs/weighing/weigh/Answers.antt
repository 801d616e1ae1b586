use Rattle.std.proofs.Common.{below_more, arith}
use Rattle.fst_trim.proofs.Weighed.{weighed_all, weighed_at}
use Rattle.fst_trim.proofs.weighing.weigh.Goals as goal

pub loop-state-preserved : goal.loop-state-preserved
loop-state-preserved g c =
    below_more _ _ c.loop-state.invariant
    (weighed_at g.W.Weight.KIND g.W.Weight.value c.args.fst.now c.loop-state.state c.arcs.result.now c.final_weight.result c.arcs.ensures c.final_weight.ensures c.weigh_arcs.ensures.kind c.weigh_arcs.ensures.range c.widen-last.ensures.kind)

pub returns : goal.returns
returns g c =
    weighed_all g.W.Weight.KIND g.W.Weight.value c.args.fst.now c.states-state-end.ensures.machine (λ p low. c.loop-state.invariant p (omega (arith, low, c.states-state-end.ensures.value)))
