use Rattle.fst_setops.proofs.Answering.{one_sorted, other_sorted}
use Rattle.fst_setops.proofs.intersecting.may_be_composed.Goals as goal

pub returns-then-is_sorted : goal.returns-then-is_sorted
returns-then-is_sorted g c = one_sorted g.W.Weight.value c.args.a.now c.args.b.now c.is_sorted.result c.is_sorted.ensures c.if-is_sorted.true

pub returns-else-is_sorted : goal.returns-else-is_sorted
returns-else-is_sorted g c = other_sorted g.W.Weight.value c.args.a.now c.args.b.now c.is_sorted.result c.is_sorted-else-is_sorted.result c.is_sorted.ensures c.is_sorted-else-is_sorted.ensures c.if-is_sorted.false
