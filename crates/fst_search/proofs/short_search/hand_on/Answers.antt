use Rattle.std.proofs.Common.{◌≡◌, ◌+◌, [], List, Some, length, map, take, get_or, slice_get, refl, sym, ap, ◌∙◌, subst, arith}
use Rattle.std.proofs.lemmas.Option.{same_Some, slice_get_read}
use Rattle.fst_semiring.specs.Cost.{Cost}
use Rattle.fst_semiring.specs.Semiring.{times, IsCost}
use Rattle.fst_trim.specs.Links.{Link}
use Rattle.fst_search.specs.Closure.{Reached}
use Rattle.fst_search.specs.Hops.{Hop, IsHop, link_hop}
use Rattle.fst_search.specs.Near.{costs_of, names_of}
use Rattle.fst_search.proofs.ShortSearch.{Handing, after_low, handing_begins, handing_ends, handing_more, item_read, link_leads, links_done, links_more, met_low}
use Rattle.fst_search.proofs.short_search.hand_on.Goals as goal

pub loop-link-init : goal.loop-link-init
loop-link-init g c =
    let value = g.W.Weight.value in
    let kind = g.W.Weight.KIND in
    let goes = IsHop value [] c.args.links.now in
    let items = c.args.reached.now.items in
    let at = c.args.at in
    let b : Reached g.row.W.Denot = record { state = c.behind-reached.inside.state; distance = c.behind-reached.inside.distance } in
    let d : Reached g.row.W.Denot = record { state = c.behind-reached-2.inside.state; distance = c.behind-reached-2.inside.distance } in
    let there : slice_get items at ≡ Some b = slice_get_read items (length items) at c.index.result.now refl c.requires.at c.index.ensures ∙ ap Some (sym c.behind-reached.view_is) in
    let again : slice_get items at ≡ Some d = slice_get_read items (length items) at c.index-2.result.now refl c.requires.at c.index-2.ensures ∙ ap Some (sym c.behind-reached-2.view_is) in
    let same : b ≡ d = same_Some b d (sym there ∙ again) in
    let place = item_read value c.args.places.now.items items c.requires.placed at b there in
    let read = place.1 ∙ ap (λ (z : Reached g.row.W.Denot). value z.distance) same in
    record {
      placed = c.requires.placed;
      size = c.requires.states;
      inside = c.requires.at;
      next = omega arith;
      handing = λ source s. subst (λ (z : Cost). Handing kind goes source at b.state z (at + 1) [] c.args.places.now.items (costs_of value items)) read (handing_begins kind goes source at b.state c.args.places.now.items (names_of items) (costs_of value items) c.requires.placed place.0 s);
    }

pub offer-requires-clause-state : goal.offer-requires-clause-state
offer-requires-clause-state g c =
    let l : Link g.row.W.Denot = record { weight = c.link.inside.weight; next = c.link.inside.next; place = c.link.inside.place } in
    let items = c.links-link-items.result.now in
    let is : l ≡ get_or items c.loop-link.link-index l = subst (λ (z : Link g.row.W.Denot). z ≡ get_or items c.loop-link.link-index z) (sym c.link.view_is) c.link-item.is in
    let low = c.requires.net.ends _ (link_leads g.W.Weight.value c.args.links.now c.behind-reached.inside.state items c.links-link-items.ensures c.loop-link.link-index l c.loop-link-test.true is) in
    let size = c.loop-link.invariant.size in
    omega (arith, low, size)

pub loop-link-preserved : goal.loop-link-preserved
loop-link-preserved g c =
    let value = g.W.Weight.value in
    let kind = g.W.Weight.KIND in
    let goes = IsHop value [] c.args.links.now in
    let l : Link g.row.W.Denot = record { weight = c.link.inside.weight; next = c.link.inside.next; place = c.link.inside.place } in
    let items = c.links-link-items.result.now in
    let i = c.loop-link.link-index in
    let state = c.behind-reached.inside.state in
    let so_far = value c.behind-reached-2.inside.distance in
    let is : l ≡ get_or items i l = subst (λ (z : Link g.row.W.Denot). z ≡ get_or items i z) (sym c.link.view_is) c.link-item.is in
    let leads = link_leads value c.args.links.now state items c.links-link-items.ensures i l c.loop-link-test.true is in
    let v = value c.in-Some.distance in
    let product : v ≡ times kind (value l.weight) so_far = c.in-Some.ensures.found ∙ c.times.ensures.product in
    let cost : IsCost kind v = subst (IsCost kind) (sym c.in-Some.ensures.found) c.times.ensures.kind in
    let old = c.loop-link.invariant in
    let longer = c.offer.ensures.longer in
    let inside = old.inside in
    let before = old.next in
    record {
      placed = c.offer.ensures.placed;
      size = c.offer.ensures.size ∙ old.size;
      inside = omega (arith, longer, inside);
      next = after_low c.args.at c.loop-link.next c.in_ok-next.next v c.loop-link.places.items c.offer.new.places.items (costs_of value c.loop-link.reached.items) (costs_of value c.offer.new.reached.items) l.next before c.in_ok-next.ensures.offered;
      handing = λ source s. subst (λ (hops : List Hop). Handing kind goes source c.args.at state so_far c.in_ok-next.next hops c.offer.new.places.items (costs_of value c.offer.new.reached.items)) (sym (links_more value c.args.links.now state items c.links-link-items.ensures i l c.loop-link-test.true is))
          (handing_more kind goes source c.args.at state so_far c.loop-link.next (map (link_hop value state) (take i items)) c.loop-link.places.items (costs_of value c.loop-link.reached.items) (old.handing source s) (link_hop value state l) leads refl v product c.in-Some.ensures.range cost c.in_ok-next.next c.offer.new.places.items (costs_of value c.offer.new.reached.items) c.in_ok-next.ensures.offered);
    }

pub returns-clause-goes_on : goal.returns-clause-goes_on
returns-clause-goes_on g c = λ source s.
    let value = g.W.Weight.value in
    let items = c.links-link-items.result.now in
    handing_ends g.W.Weight.KIND (IsHop value [] c.args.links.now) source c.args.at c.behind-reached.inside.state (value c.behind-reached-2.inside.distance) c.loop-link.next (map (link_hop value c.behind-reached.inside.state) (take c.loop-link.link-index items)) c.loop-link.places.items (costs_of value c.loop-link.reached.items) (c.loop-link.invariant.handing source s)
    (links_done value c.args.links.now c.behind-reached.inside.state items c.links-link-items.ensures c.loop-link.link-index c.loop-link-test.false)

pub links-link-items-requires : goal.links-link-items-requires
links-link-items-requires g c =
    let items = c.args.reached.now.items in
    let b : Reached g.row.W.Denot = record { state = c.behind-reached.inside.state; distance = c.behind-reached.inside.distance } in
    let there : slice_get items c.args.at ≡ Some b = slice_get_read items (length items) c.args.at c.index.result.now refl c.requires.at c.index.ensures ∙ ap Some (sym c.behind-reached.view_is) in
    let low = met_low c.args.places.now.items b.state c.args.at (item_read g.W.Weight.value c.args.places.now.items items c.requires.placed c.args.at b there).0 in
    let size = c.requires.states in
    omega (arith, low, size)
