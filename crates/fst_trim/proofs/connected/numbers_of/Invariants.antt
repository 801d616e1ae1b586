use Rattle.std.proofs.Common.{ℕ, ◌≡◌, ◌<◌, length, get_or, take}
use Rattle.fst_machine.specs.Renumbered.{marked}
use Rattle.fst_trim.proofs.connected.numbers_of.Given as goal

abbrev pub invariant-loop-mark : goal.invariant-loop-mark
invariant-loop-mark l = record {
  size : length l.numbers.items ≡ l.mark-index;
  count : l.count ≡ length (marked 0 (take l.mark-index l.marks));
  counts : (p : ℕ) → p < l.mark-index → get_or l.numbers.items p 0 ≡ length (marked 0 (take p l.marks));
}
