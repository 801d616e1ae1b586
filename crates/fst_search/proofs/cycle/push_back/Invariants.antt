use Rattle.std.proofs.Common.{◌≡◌, ◌≤◌, ◌++◌, drop, length, reverse}
use Rattle.fst_search.proofs.cycle.push_back.Given as goal

abbrev pub invariant-loop-left : goal.invariant-loop-left
invariant-loop-left l = (l.left ≤ length l.steps) × (l.path ≡ l.fn.path ++ reverse (drop l.left l.steps))

abbrev pub decreases-loop-left : goal.decreases-loop-left
decreases-loop-left l = l.left
