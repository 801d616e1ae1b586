use Rattle.std.proofs.Common.{◌≡◌, length}
use Rattle.fst_search.specs.Near.{names_of}
use Rattle.fst_search.proofs.ShortSearch.{IsLeft}
use Rattle.fst_search.proofs.short_search.displace.Given as goal

abbrev pub invariant-loop-item : goal.invariant-loop-item
invariant-loop-item g l = record {
  size : length l.places.items ≡ length l.fn.places.items;
  left : IsLeft l.item-index (names_of l.reached) l.places.items;
}
