use Rattle.std.proofs.Common.{◌≤◌}
use Rattle.fst_table.proofs.flat_table.FlatTable.count_free.Given as goal

abbrev pub invariant-loop-start : goal.invariant-loop-start
invariant-loop-start l = l.count ≤ l.start-index
