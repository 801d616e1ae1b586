use Rattle.std.proofs.Common.{ℕ, ◌≤◌, ◌<◌, ◌≡◌, ◌⊎◌, get_or}
use Rattle.fst_machine.specs.Machine.{Arc}
use Rattle.fst_trim.specs.Sides.{label_of}
use Rattle.fst_trim.proofs.sorted.stands_by.Given as goal

abbrev pub invariant-loop-arc : goal.invariant-loop-arc
invariant-loop-arc g l = record {
  sorted : (i j : ℕ) (d : Arc g.row.W.Denot ℕ) → i ≤ j → j < l.arc-index → label_of l.side (get_or l.arcs i d) ≤ label_of l.side (get_or l.arcs j d);
  top : (i : ℕ) (d : Arc g.row.W.Denot ℕ) → i < l.arc-index → label_of l.side (get_or l.arcs i d) ≤ l.last;
  met : (l.last ≡ 0) ⊎ ((i : ℕ) × (i < l.arc-index) × ((d : Arc g.row.W.Denot ℕ) → label_of l.side (get_or l.arcs i d) ≡ l.last));
}
