use Rattle.std.proofs.Common.{length}
use Rattle.fst_plain.proofs.remaining.+is_read.Given as goal

abbrev pub decreases-is_read : goal.decreases-is_read
decreases-is_read l = length l.paths.now
