use Rattle.std.proofs.Common.{◌≡◌, ◌+◌, ◌-◌, ◌<◌, ℕ, List, false, Some, length, get_or, slice_get, refl, sym, ap, ◌∙◌, subst, arith}
use Rattle.std.proofs.lemmas.List.{length-map}
use Rattle.std.proofs.lemmas.Option.{get_or_from_slice_get, slice_get_read}
use Rattle.fst_semiring.specs.Cost.{Cost, infinite}
use Rattle.fst_machine.proofs.Arcs.{at_mapped}
use Rattle.fst_search.specs.Closure.{Reached}
use Rattle.fst_search.specs.Hops.{NoWorse}
use Rattle.fst_search.specs.Near.{ArePlaced, Offered, costs_of, distance_by, names_of, place_of}
use Rattle.fst_search.proofs.Order.{better_no_worse, better_or_not_at}
use Rattle.fst_search.proofs.ShortSearch.{changed_offered, costs_set, distance_listed, kept_offered, names_set, place_low}
use Rattle.fst_search.proofs.short_search.offer.Goals as goal

read_place : (places : List ℕ) (state place : ℕ) → state < length places → place ≡ get_or places state place → place_of places state ≡ place
read_place places state place low is = get_or_from_slice_get places state place 0 (slice_get_read places (length places) state place refl low is)

pub index-requires-2 : goal.index-requires-2
index-requires-2 g c =
    let read = read_place c.args.places.now.items c.args.state c.index.result.now c.requires.state c.index.ensures in
    let low = place_low c.args.places.now.items (names_of c.args.reached.now.items) c.requires.placed c.args.state in
    let many : length (names_of c.args.reached.now.items) ≡ length c.args.reached.now.items = length-map c.args.reached.now.items _ in
    let some = c.if-place-eq0.false in
    omega (arith, read, low, many, some)

pub index_mut-requires : goal.index_mut-requires
index_mut-requires g c =
    let read = read_place c.args.places.now.items c.args.state c.index.result.now c.requires.state c.index.ensures in
    let low = place_low c.args.places.now.items (names_of c.args.reached.now.items) c.requires.placed c.args.state in
    let many : length (names_of c.args.reached.now.items) ≡ length c.args.reached.now.items = length-map c.args.reached.now.items _ in
    let some = c.if-place-eq0.false in
    omega (arith, read, low, many, some)

pub returns-then-is_better-clause-placed : goal.returns-then-is_better-clause-placed
returns-then-is_better-clause-placed g c =
    let places = c.args.places.now.items in
    let items = c.args.reached.now.items in
    let i = c.index.result.now - 1 in
    let read = read_place places c.args.state c.index.result.now c.requires.state c.index.ensures in
    let at : place_of places c.args.state ≡ i + 1 = (let some = c.if-place-eq0.false in omega (arith, read, some)) in
    let r : Reached g.row.W.Denot = record { state = c.args.state; distance = c.args.distance } in
    subst (ArePlaced places) (sym (names_set items i r (c.requires.placed.listed c.args.state i at))) c.requires.placed

pub returns-then-is_better-clause-offered : goal.returns-then-is_better-clause-offered
returns-then-is_better-clause-offered g c =
    let value = g.W.Weight.value in
    let places = c.args.places.now.items in
    let items = c.args.reached.now.items in
    let i = c.index.result.now - 1 in
    let v = value c.args.distance in
    let read = read_place places c.args.state c.index.result.now c.requires.state c.index.ensures in
    let at : place_of places c.args.state ≡ i + 1 = (let some = c.if-place-eq0.false in omega (arith, read, some)) in
    let most = place_low places (names_of items) c.requires.placed c.args.state in
    let many : length (names_of items) ≡ length items = length-map items _ in
    let costly : length (costs_of value items) ≡ length items = length-map items _ in
    let low : i < length items = omega (arith, at, most, many) in
    let r : Reached g.row.W.Denot = record { state = c.args.state; distance = c.args.distance } in
    let b : Reached g.row.W.Denot = record { state = c.behind-reached.inside.state; distance = c.behind-reached.inside.distance } in
    let there : slice_get items i ≡ Some b = slice_get_read items (length items) i c.index-2.result.now refl low c.index-2.ensures ∙ ap Some (sym c.behind-reached.view_is) in
    let is : distance_by places (costs_of value items) c.args.state ≡ value b.distance = distance_listed places (costs_of value items) c.args.state i at ∙ get_or_from_slice_get (costs_of value items) i (value b.distance) infinite (at_mapped (λ (z : Reached g.row.W.Denot). value z.distance) items i b there) in
    let less : NoWorse v (distance_by places (costs_of value items) c.args.state) = subst (NoWorse v) (sym is) (better_no_worse v (value b.distance) (c.if-is_better.ensures.0 refl)) in
    let least = c.min.ensures in
    subst (λ (zs : List Cost). Offered c.args.state v c.args.next c.min.result places places (costs_of value items) zs) (sym (costs_set value items i r))
    (changed_offered places (names_of items) c.requires.placed c.args.state i v (costs_of value items) at (omega (arith, low, costly)) c.args.next c.min.result less (omega (arith, least)) (omega (arith, least)))

pub returns-clause-offered : goal.returns-clause-offered
returns-clause-offered g c =
    let value = g.W.Weight.value in
    let places = c.args.places.now.items in
    let items = c.args.reached.now.items in
    let i = c.index.result.now - 1 in
    let v = value c.args.distance in
    let read = read_place places c.args.state c.index.result.now c.requires.state c.index.ensures in
    let at : place_of places c.args.state ≡ i + 1 = (let some = c.if-place-eq0.false in omega (arith, read, some)) in
    let most = place_low places (names_of items) c.requires.placed c.args.state in
    let many : length (names_of items) ≡ length items = length-map items _ in
    let low : i < length items = omega (arith, at, most, many) in
    let b : Reached g.row.W.Denot = record { state = c.behind-reached.inside.state; distance = c.behind-reached.inside.distance } in
    let there : slice_get items i ≡ Some b = slice_get_read items (length items) i c.index-2.result.now refl low c.index-2.ensures ∙ ap Some (sym c.behind-reached.view_is) in
    let is : distance_by places (costs_of value items) c.args.state ≡ value b.distance = distance_listed places (costs_of value items) c.args.state i at ∙ get_or_from_slice_get (costs_of value items) i (value b.distance) infinite (at_mapped (λ (z : Reached g.row.W.Denot). value z.distance) items i b there) in
    kept_offered places (names_of items) c.requires.placed c.args.state i v (costs_of value items) c.args.next at (subst (λ (z : Cost). NoWorse z v) (sym is) (better_or_not_at v (value b.distance) false c.if-is_better.ensures refl))
