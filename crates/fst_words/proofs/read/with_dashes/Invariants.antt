use Rattle.std.proofs.Common.{◌≡◌, ◌++◌, ◌-◌, codes, length, replicate}
use Rattle.fst_words.proofs.read.with_dashes.Given as goal

abbrev pub invariant-loop-alloc : goal.invariant-loop-alloc
invariant-loop-alloc l =
    l.longer ++ replicate (l.count - length l.longer) (codes "-")
    ≡ l.initial.longer ++ replicate (l.count - length l.initial.longer) (codes "-")

abbrev pub decreases-loop-alloc : goal.decreases-loop-alloc
decreases-loop-alloc l = l.count - length l.longer
