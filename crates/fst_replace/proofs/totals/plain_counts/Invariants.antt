use Rattle.std.proofs.Common.{◌≡◌, ◌+◌, ◌<◌, ℕ, get_or, length}
use Rattle.fst_machine.specs.Machine.{arc_total}
use Rattle.fst_replace.specs.Rules.{machine_at}
use Rattle.fst_replace.specs.Walks.{at_place}
use Rattle.fst_replace.proofs.totals.plain_counts.Given as goal

abbrev pub invariant-loop-place : goal.invariant-loop-place
invariant-loop-place g l = record {
  size : length l.counts.items ≡ l.place;
  counts : (i : ℕ) → i < l.place → get_or l.counts.items i 0 + length (at_place l.calls i) ≡ arc_total (machine_at l.rules i).states;
}
