use Rattle.std.proofs.Common.{length}
use Rattle.fst_plain.proofs.listing.+compare_places.Given as goal

abbrev pub decreases-compare_places : goal.decreases-compare_places
decreases-compare_places l = length l.a.now
