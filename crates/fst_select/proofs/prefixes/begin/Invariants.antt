use Rattle.std.proofs.Common.{◌≡◌, take}
use Rattle.fst_nbest.specs.Entries.{list_at}
use Rattle.fst_select.specs.Entries.{words_of}
use Rattle.fst_select.proofs.prefixes.begin.Given as goal

abbrev pub invariant-loop-i : goal.invariant-loop-i
invariant-loop-i g l = l.word ≡ take l.i (list_at (words_of l.listed) l.owner)
