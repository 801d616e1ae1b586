use Rattle.std.proofs.Common.{◌-◌, ◌<◌, ◌≤◌, ℕ, length, get_or}
use Rattle.fst_machine.specs.Machine.{Arc}
use Rattle.fst_compose.specs.Names.{Name}
use Rattle.fst_delayed.proofs.run.first_place.Given as goal

abbrev pub invariant-loop-low : goal.invariant-loop-low
invariant-loop-low g l = record {
  order : l.low ≤ l.high;
  within : l.high ≤ length l.arcs;
  before : (k : ℕ) (d : Arc g.row.W-Wide.Denot (Name ℕ ℕ)) → k < l.low → (get_or l.arcs k d).ilabel < l.label;
  from : (k : ℕ) (d : Arc g.row.W-Wide.Denot (Name ℕ ℕ)) → l.high ≤ k → k < length l.arcs → l.label ≤ (get_or l.arcs k d).ilabel;
}

abbrev pub decreases-loop-low : goal.decreases-loop-low
decreases-loop-low g l = l.high - l.low
