use Rattle.fst_replace.specs.Walks.{IsSearch, steps_left}
use Rattle.fst_replace.proofs.order.order_of.Given as goal

abbrev pub invariant-loop-rule : goal.invariant-loop-rule
invariant-loop-rule l = IsSearch l.calls l.search.marks.items l.search.cursors.items l.search.stack.items l.search.order.items

abbrev pub decreases-loop-rule : goal.decreases-loop-rule
decreases-loop-rule l = steps_left l.search.marks.items l.search.stack.items
