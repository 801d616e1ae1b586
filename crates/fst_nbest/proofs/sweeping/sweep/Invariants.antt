use Rattle.std.proofs.Common.{◌-◌, ◌≤◌, length}
use Rattle.fst_nbest.specs.Sweep.{IsSwept}
use Rattle.fst_nbest.proofs.sweeping.sweep.Given as goal

abbrev pub invariant-loop-left : goal.invariant-loop-left
invariant-loop-left g l = record {
  few : l.left ≤ length l.order;
  swept : IsSwept g.W.Weight.KIND g.M.AsMachine.value g.W.Weight.wide_value (g.M.AsMachine.machine l.fst) (length l.order - l.left) l.dist.items l.count.items;
}

abbrev pub decreases-loop-left : goal.decreases-loop-left
decreases-loop-left g l = l.left
