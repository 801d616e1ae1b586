use Rattle.std.proofs.Common.{◌≡◌, length}
use Rattle.fst_minimize.proofs.ends_first.Search.walk.Given as goal

abbrev pub invariant-loop : goal.invariant-loop
invariant-loop l = length l.self.met.items ≡ length l.rows
