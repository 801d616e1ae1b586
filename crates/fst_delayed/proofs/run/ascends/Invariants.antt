use Rattle.std.proofs.Common.{ℕ, ◌≤◌, ◌<◌, ◌≡◌, ◌⊎◌, get_or}
use Rattle.fst_machine.specs.Machine.{Arc}
use Rattle.fst_compose.specs.Names.{Name}
use Rattle.fst_delayed.proofs.run.ascends.Given as goal

abbrev pub invariant-loop-arc : goal.invariant-loop-arc
invariant-loop-arc g l = record {
  sorted : (i j : ℕ) (d : Arc g.row.W-Wide.Denot (Name ℕ ℕ)) → i ≤ j → j < l.arc-index → (get_or l.arcs i d).ilabel ≤ (get_or l.arcs j d).ilabel;
  top : (i : ℕ) (d : Arc g.row.W-Wide.Denot (Name ℕ ℕ)) → i < l.arc-index → (get_or l.arcs i d).ilabel ≤ l.last;
  met : (l.last ≡ 0) ⊎ ((i : ℕ) × (i < l.arc-index) × ((d : Arc g.row.W-Wide.Denot (Name ℕ ℕ)) → (get_or l.arcs i d).ilabel ≡ l.last));
}
