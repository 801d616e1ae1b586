use Rattle.std.proofs.Common.{◌-◌, ◌<◌, ◌≤◌, ℕ, get_or, length}
use Rattle.fst_machine.specs.Machine.{Arc}
use Rattle.fst_compose.proofs.matching.pass_lower.Given as goal

abbrev pub invariant-loop-place : goal.invariant-loop-place
invariant-loop-place g l = record {
  within : l.place ≤ length l.bs;
  before : (k : ℕ) (d : Arc g.row.W.Denot ℕ) → k < l.place → (get_or l.bs k d).ilabel < l.label;
}

abbrev pub decreases-loop-place : goal.decreases-loop-place
decreases-loop-place g l = length l.bs - l.place
