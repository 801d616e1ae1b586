use Rattle.std.proofs.Common.{◌+◌, length}
use Rattle.fst_plain.proofs.remaining.+read_alike.Given as goal

abbrev pub decreases-read_alike : goal.decreases-read_alike
decreases-read_alike l = length l.a.now + length l.b.now
