use Rattle.std.proofs.Common.{◌∙◌}
use Rattle.fst_nbest.proofs.Sorted.{pushed_size}
use Rattle.fst_nbest.proofs.Sweeps.{zeros_more}
use Rattle.fst_nbest.proofs.sweeping.zeros.Goals as goal

pub loop-preserved : goal.loop-preserved
loop-preserved g c = record {
  size = pushed_size c.loop.dist.items c.push.new.self.items c.widen-zero.result c.loop.counter c.in_ok-push.ensures.items c.loop.invariant.size;
  none = zeros_more g.W.Weight.wide_value c.loop.dist.items c.push.new.self.items c.widen-zero.result c.in_ok-push.ensures.items (c.widen-zero.ensures.same ∙ c.zero.ensures) c.loop.invariant.none;
}
