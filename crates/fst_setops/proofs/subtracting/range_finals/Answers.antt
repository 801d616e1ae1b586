use Rattle.std.proofs.Common.{below_more, sym, subst}
use Rattle.fst_semiring.specs.Semiring.{InRange}
use Rattle.fst_trim.proofs.Weighed.{graph_final}
use Rattle.fst_setops.proofs.subtracting.range_finals.Goals as goal

pub loop-state-preserved : goal.loop-state-preserved
loop-state-preserved g c =
    below_more _ _ c.loop-state.invariant (subst InRange (sym (graph_final g.W.Weight.value c.args.fst.now c.loop-state.state c.final_weight.result c.final_weight.ensures)) c.widen-last.ensures.range)
