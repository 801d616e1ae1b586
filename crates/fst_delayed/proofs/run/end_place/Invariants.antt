use Rattle.std.proofs.Common.{◌-◌, ◌≡◌, ◌<◌, ◌≤◌, ℕ, length, get_or}
use Rattle.fst_machine.specs.Machine.{Arc}
use Rattle.fst_compose.specs.Names.{Name}
use Rattle.fst_delayed.proofs.run.end_place.Given as goal

abbrev pub invariant-loop-end : goal.invariant-loop-end
invariant-loop-end g l = record {
  order : l.first ≤ l.end;
  within : l.end ≤ length l.arcs;
  here : (k : ℕ) (d : Arc g.row.W-Wide.Denot (Name ℕ ℕ)) → l.first ≤ k → k < l.end → (get_or l.arcs k d).ilabel ≡ l.label;
}

abbrev pub decreases-loop-end : goal.decreases-loop-end
decreases-loop-end g l = length l.arcs - l.end
