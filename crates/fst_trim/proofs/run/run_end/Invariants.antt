use Rattle.std.proofs.Common.{◌-◌, ◌≡◌, ◌<◌, ◌≤◌, ℕ, length, get_or}
use Rattle.fst_machine.specs.Machine.{Arc}
use Rattle.fst_trim.specs.Sides.{label_of}
use Rattle.fst_trim.proofs.run.run_end.Given as goal

abbrev pub invariant-loop-end : goal.invariant-loop-end
invariant-loop-end g l = record {
  order : l.start ≤ l.end;
  within : l.end ≤ length l.arcs;
  here : (k : ℕ) (d : Arc g.row.W.Denot ℕ) → l.start ≤ k → k < l.end → label_of l.side (get_or l.arcs k d) ≡ l.other;
}

abbrev pub decreases-loop-end : goal.decreases-loop-end
decreases-loop-end g l = length l.arcs - l.end
