use Rattle.std.proofs.Common.{ℕ, is_some}
use Rattle.std.specs.Bool.{Decides}
use Rattle.fst_table.specs.Placed.{placed_in}
use Rattle.fst_trim.specs.FirstArcs.{HasEarlier, Repeats}
use Rattle.fst_trim.proofs.Places.{NoneBefore}
use Rattle.fst_trim.proofs.repeat.repeat_by_table.Given as goal

abbrev pub invariant-loop-place : goal.invariant-loop-place
invariant-loop-place g l = record {
  none : NoneBefore Repeats l.arcs l.place;
  seen : (label : ℕ) → Decides (is_some (placed_in l.seen label)) (HasEarlier l.arcs l.place label);
}
