use Rattle.std.proofs.Common.{◌≡◌, ◌≢◌, ◌<◌, ℕ, Some, true, get_or, length, slice_get}
use Rattle.std.specs.Bool.{Decides}
use Rattle.fst_semiring.specs.Cost.{infinite}
use Rattle.fst_select.proofs.surveying.mark_some.Given as goal

abbrev pub invariant-loop-distance : goal.invariant-loop-distance
invariant-loop-distance g l = record {
  size : length l.marks.items ≡ l.distance-index;
  marks : (q : ℕ) (d : g.row.W-Wide.Denot) → q < l.distance-index → slice_get l.distances q ≡ Some d → Decides (get_or l.marks.items q true) (g.W.Weight.wide_value d ≢ infinite);
}
