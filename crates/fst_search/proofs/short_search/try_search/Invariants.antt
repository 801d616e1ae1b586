use Rattle.std.proofs.Common.{◌≡◌, ◌+◌, ◌-◌, ◌*◌, ◌≤◌, [], length}
use Rattle.fst_search.specs.Hops.{IsHop}
use Rattle.fst_search.specs.Near.{ArePlaced, ShortSearch, costs_of, names_of, one_at}
use Rattle.fst_search.proofs.short_search.try_search.Given as goal

abbrev pub invariant-loop-at : goal.invariant-loop-at
invariant-loop-at g l =
    let value = g.W.Weight.value in
    record {
      placed : ArePlaced l.places.items (names_of l.reached.items);
      size : length l.places.items ≡ length l.links;
      inside : l.at ≤ length l.reached.items;
      takes : l.takes ≤ 2 * length l.links + 65;
      searching : ShortSearch g.W.Weight.KIND (IsHop value [] l.links) (one_at g.W.Weight.KIND l.state) l.at l.places.items (costs_of value l.reached.items);
    }

abbrev pub decreases-loop-at : goal.decreases-loop-at
decreases-loop-at g l = (2 * length l.links + 66) - l.takes
