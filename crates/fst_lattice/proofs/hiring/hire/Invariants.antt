use Rattle.std.proofs.Common.{◌≡◌, ◌+◌, ℕ, false, Some, length, slice_get}
use Rattle.fst_lattice.specs.Phases.{Laborer}
use Rattle.fst_lattice.specs.Runs.{IsNew}
use Rattle.fst_lattice.proofs.hiring.hire.Given as goal

abbrev pub invariant-loop-worker : goal.invariant-loop-worker
invariant-loop-worker g l = record {
  size : length l.workers.items ≡ l._worker;
  new : (k : ℕ) (w : Laborer g.row.W-Wide.Denot g.row.M.Denot) → slice_get l.workers.items k ≡ Some w → IsNew g.M.Meter.count g.M.Meter.is_part w;
  count : g.M.Meter.count l.meter ≡ g.M.Meter.count l.initial.meter;
  parts : g.M.Meter.parts_out l.meter ≡ g.M.Meter.parts_out l.initial.meter + l._worker;
  part : g.M.Meter.is_part l.meter ≡ false;
}
