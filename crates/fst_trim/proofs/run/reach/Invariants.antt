use Rattle.std.proofs.Common.{◌-◌, ◌+◌, ◌^◌, ◌≡◌, ◌<◌, ◌≤◌, ℕ, length, get_or}
use Rattle.fst_machine.specs.Machine.{Arc}
use Rattle.fst_trim.specs.Sides.{label_of}
use Rattle.fst_trim.proofs.run.reach.Given as goal

abbrev pub invariant-loop-low : goal.invariant-loop-low
invariant-loop-low g l = record {
  after : l.start < l.low;
  within : l.low ≤ length l.arcs;
  before : (k : ℕ) (d : Arc g.row.W.Denot ℕ) → k < l.low → label_of l.side (get_or l.arcs k d) < l.other;
  doubled : (times : ℕ) × (l.low ≡ l.start + 2 ^ times) × (l.steps ≡ l.fn.steps + times);
}

abbrev pub decreases-loop-low : goal.decreases-loop-low
decreases-loop-low g l = length l.arcs - l.low
