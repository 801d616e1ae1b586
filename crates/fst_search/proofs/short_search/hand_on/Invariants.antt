use Rattle.std.proofs.Common.{◌≡◌, ◌+◌, ◌≤◌, ◌<◌, [], ℕ, length, map, take}
use Rattle.fst_semiring.specs.Cost.{Cost}
use Rattle.fst_search.specs.Hops.{IsHop, link_hop}
use Rattle.fst_search.specs.Near.{ArePlaced, ShortSearch, costs_of, names_of}
use Rattle.fst_search.proofs.ShortSearch.{Handing}
use Rattle.fst_search.proofs.short_search.hand_on.Given as goal

abbrev pub invariant-loop-link : goal.invariant-loop-link
invariant-loop-link g l =
    let value = g.W.Weight.value in
    let goes = IsHop value [] l.links in
    record {
      placed : ArePlaced l.places.items (names_of l.reached.items);
      size : length l.places.items ≡ length l.links;
      inside : l.at < length l.reached.items;
      next : l.next ≤ l.at + 1;
      handing : (source : ℕ → Cost) → ShortSearch g.W.Weight.KIND goes source l.at l.fn.places.items (costs_of value l.fn.reached.items)
          → Handing g.W.Weight.KIND goes source l.at l.state (value l.so_far) l.next (map (link_hop value l.state) (take l.link-index l.link-items)) l.places.items (costs_of value l.reached.items);
    }
