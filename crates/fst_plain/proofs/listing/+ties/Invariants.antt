use Rattle.std.proofs.Common.{length}
use Rattle.fst_plain.proofs.listing.+ties.Given as goal

abbrev pub decreases-ties : goal.decreases-ties
decreases-ties l = length l.paths.now
