use Rattle.std.proofs.Common.{◌≡◌, length}
use Rattle.fst_minimize.proofs.ends_first.ends_first.Given as goal

abbrev pub invariant-loop-state : goal.invariant-loop-state
invariant-loop-state l = length l.search.met.items ≡ length l.rows
