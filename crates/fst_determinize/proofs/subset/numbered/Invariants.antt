use Rattle.std.proofs.Common.{◌≡◌, fold, take}
use Rattle.fst_determinize.specs.Kept.{members_as, number_more}
use Rattle.fst_determinize.proofs.subset.numbered.Given as goal

abbrev pub invariant-loop-member : goal.invariant-loop-member
invariant-loop-member g l = l.so_far ≡ fold number_more l.fn.number (members_as g.R.Kept.value (take l.member-index l.members))
