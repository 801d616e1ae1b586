use Rattle.std.proofs.Common.{length}
use Rattle.fst_plain.proofs.scan.+stands.Given as goal

abbrev pub decreases-stands : goal.decreases-stands
decreases-stands l = length l.names.now
