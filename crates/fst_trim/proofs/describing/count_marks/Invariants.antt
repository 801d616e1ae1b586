use Rattle.std.proofs.Common.{◌≡◌, length, take}
use Rattle.fst_machine.specs.Renumbered.{marked}
use Rattle.fst_trim.proofs.describing.count_marks.Given as goal

abbrev pub invariant-loop-mark : goal.invariant-loop-mark
invariant-loop-mark l = l.count ≡ length (marked 0 (take l.mark-index l.marks))
