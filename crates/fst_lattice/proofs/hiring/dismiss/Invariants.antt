use Rattle.std.proofs.Common.{◌≡◌, ◌+◌, ◌^◌, ◌<◌, ◌≤◌, ℕ, false, true, Some, length, slice_get}
use Rattle.std.specs.Prelude.{sum_by}
use Rattle.fst_lattice.specs.Phases.{Laborer}
use Rattle.fst_lattice.proofs.hiring.dismiss.Given as goal

abbrev pub invariant-loop-worker : goal.invariant-loop-worker
invariant-loop-worker g l = record {
  sum : g.M.Meter.count l.meter + sum_by (λ w. g.M.Meter.count w.meter) l.left.items ≡ g.M.Meter.count l.initial.meter + sum_by (λ w. g.M.Meter.count w.meter) l.initial.left.items;
  few : g.M.Meter.count l.initial.meter + sum_by (λ w. g.M.Meter.count w.meter) l.initial.left.items < 2 ^ 63;
  parts : (k : ℕ) (w : Laborer g.row.W-Wide.Denot g.row.M.Denot) → slice_get l.left.items k ≡ Some w → g.M.Meter.is_part w.meter ≡ true;
  out : g.M.Meter.parts_out l.meter + length l.initial.left.items ≡ g.M.Meter.parts_out l.initial.meter + length l.left.items;
  room : length l.initial.left.items ≤ g.M.Meter.parts_out l.initial.meter;
  whole : g.M.Meter.is_part l.meter ≡ false;
}

abbrev pub decreases-loop-worker : goal.decreases-loop-worker
decreases-loop-worker g l = length l.left.items
