use Rattle.std.proofs.Common.{◌≡◌, ◌++◌, ◌-◌, ◌^◌, ℕ, length}
use Rattle.fst_delayed.specs.Caches.{Entries}
use Rattle.fst_delayed.specs.Handed.{Name}
use Rattle.fst_lattice.specs.Runs.{IsBetween, all_lines}
use Rattle.fst_lattice.proofs.batching.walk_all.Given as goal

abbrev pub invariant-loop-report : goal.invariant-loop-report
invariant-loop-report g l = record {
  between : IsBetween g.W.Weight.KIND g.W.Weight.value g.W.Weight.wide_value g.M.Meter.count g.M.Meter.is_part l.delayed l.lines l.limit l.cache l.workers;
  size : length l.workers ≡ length l.initial.workers;
  lines : all_lines l.workers ≡ all_lines l.initial.workers;
  front : (more : Entries g.row.W-Wide.Denot (Name ℕ ℕ)) × (l.cache ≡ l.initial.cache ++ more);
}

abbrev pub decreases-loop-report : goal.decreases-loop-report
decreases-loop-report g l = 2 ^ 46 - length l.cache
