use Rattle.std.proofs.Common.{◌≡◌, take}
use Rattle.fst_nbest.specs.Entries.{list_at}
use Rattle.fst_nbest.proofs.walking.begin.Given as goal

abbrev pub invariant-loop-i : goal.invariant-loop-i
invariant-loop-i l = l.word ≡ take l.i (list_at l.listed l.path)
