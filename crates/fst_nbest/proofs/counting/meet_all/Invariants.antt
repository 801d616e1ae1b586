use Rattle.std.proofs.Common.{◌≡◌, length, take}
use Rattle.fst_nbest.specs.Counts.{MeetsAll}
use Rattle.fst_nbest.proofs.counting.meet_all.Given as goal

abbrev pub invariant-loop-name : goal.invariant-loop-name
invariant-loop-name l = record {
  met : MeetsAll l.count l.fn.counts.items l.fn.names.items (take l.name-index l.sources) l.counts.items l.names.items;
  size : length l.counts.items ≡ length l.fn.counts.items;
}
