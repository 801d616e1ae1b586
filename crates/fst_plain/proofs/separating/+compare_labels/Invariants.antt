use Rattle.std.proofs.Common.{length}
use Rattle.fst_plain.proofs.separating.+compare_labels.Given as goal

abbrev pub decreases-compare_labels : goal.decreases-compare_labels
decreases-compare_labels l = length l.a.now
