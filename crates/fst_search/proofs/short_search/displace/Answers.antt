use Rattle.std.proofs.Common.{◌≡◌, Some, length, slice_get, refl, sym, ap, ◌∙◌, arith, rules}
use Rattle.std.proofs.lemmas.List.{length-map, length-set}
use Rattle.std.proofs.lemmas.Option.{slice_get_read}
use Rattle.fst_machine.proofs.Arcs.{at_mapped}
use Rattle.fst_search.specs.Closure.{Reached}
use Rattle.fst_search.specs.Near.{names_of}
use Rattle.fst_search.proofs.ShortSearch.{left_begins, left_ends, left_more, met_low}
use Rattle.fst_search.proofs.short_search.displace.Goals as goal

pub loop-item-init : goal.loop-item-init
loop-item-init g c = record { size = refl; left = left_begins c.args.places.now.items (names_of c.args.reached.now) c.requires }

pub index_mut-requires : goal.index_mut-requires
index_mut-requires g c =
    let list = c.args.reached.now in
    let i = c.loop-item.item-index in
    let b : Reached g.row.D.Denot = record { state = c.item.inside.state; distance = c.item.inside.distance } in
    let there : slice_get list i ≡ Some b = slice_get_read list (length list) i c.item-item.result refl c.loop-item-test.true c.item-item.is ∙ ap Some (sym c.item.view_is) in
    let name : slice_get (names_of list) i ≡ Some b.state = at_mapped (λ (r : Reached g.row.D.Denot). r.state) list i b there in
    let low = met_low c.args.places.now.items b.state i (c.requires.placed i b.state name) in
    let size = c.loop-item.invariant.size in
    search rules

pub loop-item-preserved : goal.loop-item-preserved
loop-item-preserved g c =
    let list = c.args.reached.now in
    let i = c.loop-item.item-index in
    let b : Reached g.row.D.Denot = record { state = c.item.inside.state; distance = c.item.inside.distance } in
    let there : slice_get list i ≡ Some b = slice_get_read list (length list) i c.item-item.result refl c.loop-item-test.true c.item-item.is ∙ ap Some (sym c.item.view_is) in
    let name : slice_get (names_of list) i ≡ Some b.state = at_mapped (λ (r : Reached g.row.D.Denot). r.state) list i b there in
    let low = met_low c.args.places.now.items b.state i (c.requires.placed i b.state name) in
    let size = c.loop-item.invariant.size in
    record {
      size = length-set c.loop-item.places.items b.state 0 ∙ size;
      left = left_more i b.state (names_of list) c.loop-item.places.items (omega (arith, low, size)) name c.loop-item.invariant.left;
    }

pub returns : goal.returns
returns g c =
    let many : length (names_of c.args.reached.now) ≡ length c.args.reached.now = length-map c.args.reached.now _ in
    let all = c.loop-item-test.false in
    left_ends c.loop-item.item-index (length c.args.places.now.items) (names_of c.args.reached.now) c.loop-item.places.items (omega (arith, many, all)) c.loop-item.invariant.size c.loop-item.invariant.left
