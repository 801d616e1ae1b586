use Rattle.std.proofs.Common.{◌-◌, ◌≡◌, ◌<◌, ◌≤◌, ℕ, false, get_or}
use Rattle.fst_machine.specs.Machine.{Arc}
use Rattle.fst_trim.specs.Sides.{label_of}
use Rattle.fst_trim.proofs.Halving.{LeavesSteps}
use Rattle.fst_trim.proofs.run.first_place.Given as goal

abbrev pub invariant-loop-low : goal.invariant-loop-low
invariant-loop-low g l = record {
  start : l.start ≤ l.low;
  order : l.low ≤ l.high;
  within : l.high ≤ l.stop;
  before : (k : ℕ) (d : Arc g.row.W.Denot ℕ) → l.start ≤ k → k < l.low → label_of l.side (get_or l.arcs k d) < l.other;
  from : (k : ℕ) (d : Arc g.row.W.Denot ℕ) → l.high ≤ k → k < l.stop → l.other ≤ label_of l.side (get_or l.arcs k d);
  unmet : l.met ≡ false → (k : ℕ) (d : Arc g.row.W.Denot ℕ) → l.high ≤ k → k < l.stop → l.other < label_of l.side (get_or l.arcs k d);
  cost : LeavesSteps (l.stop - l.start) (l.high - l.low) l.fn.steps l.steps;
}

abbrev pub decreases-loop-low : goal.decreases-loop-low
decreases-loop-low g l = l.high - l.low
