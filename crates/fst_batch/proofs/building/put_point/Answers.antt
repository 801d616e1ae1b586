use Rattle.std.proofs.Common.{ℕ, List, length, sym, ap, ◌∙◌, subst, arith}
use Rattle.std.specs.List.{All}
use Rattle.fst_machine.specs.Machine.{Arc, IsArc, changed}
use Rattle.fst_batch.specs.Filling.{filled}
use Rattle.fst_delayed.specs.Caches.{keys}
use Rattle.fst_lattice.specs.Lattice.{point}
use Rattle.fst_batch.proofs.Wholes.{whole_arcs, whole_found, whole_held, whole_key, whole_many, whole_more, whole_small}
use Rattle.fst_batch.proofs.building.put_point.Goals as goal

pub unreachable-requires : goal.unreachable-requires
unreachable-requires g c =
    let p = point c.item-position.result.0 c.item-position.result.1 in
    let none = rw c.in_default.is at c.find.ensures.arcs in
    none (whole_held g.W.Weight.KIND g.W.Weight.value g.W.Weight.wide_value (g.D.Composed.machines c.args.delayed.now) c.args.line.now (keys c.args.cache.now) c.args.points.now c.requires.whole c.args.place p c.item-position.ensures)

pub number_point-requires-clause-found : goal.number_point-requires-clause-found
number_point-requires-clause-found g c =
    let p = point c.item-position.result.0 c.item-position.result.1 in
    whole_found g.W.Weight.KIND g.W.Weight.value g.W.Weight.wide_value (g.D.Composed.machines c.args.delayed.now) c.args.line.now (keys c.args.cache.now) c.args.points.now c.requires.whole c.args.place p c.item-position.ensures
    c.args.cache.now c.requires.entries c.in-Some.arcs.now c.in-Some.ensures.arcs

pub returns-then-len-room-clause-filling : goal.returns-then-len-room-clause-filling
returns-then-len-room-clause-filling g c =
    let p = point c.item-position.result.0 c.item-position.result.1 in
    whole_many g.W.Weight.KIND g.W.Weight.value g.W.Weight.wide_value (g.D.Composed.machines c.args.delayed.now) c.args.line.now (keys c.args.cache.now) c.args.points.now c.requires.whole c.args.place p c.item-position.ensures
    c.args.cache.now c.requires.entries c.in-Some.arcs.now c.in-Some.ensures.arcs c.number_point.new.out.items c.in_ok-number_point.ensures c.args.fst.now c.requires.filling (omega arith)

pub last_weight-last-requires : goal.last_weight-last-requires
last_weight-last-requires g c =
    let p = point c.item-position.result.0 c.item-position.result.1 in
    whole_key g.W.Weight.KIND g.W.Weight.value g.W.Weight.wide_value (g.D.Composed.machines c.args.delayed.now) c.args.line.now (keys c.args.cache.now) c.args.points.now c.requires.whole c.args.place p c.item-position.ensures

pub fill_state-requires-clause-arcs : goal.fill_state-requires-clause-arcs
fill_state-requires-clause-arcs g c =
    let p = point c.item-position.result.0 c.item-position.result.1 in
    subst (λ (xs : List (Arc g.row.W-Wide.Denot ℕ)). All (IsArc g.W.Weight.wide_value (length c.args.fst.now.states)) xs) (sym c.deref.ensures.value)
    (whole_arcs g.W.Weight.KIND g.W.Weight.value g.W.Weight.wide_value (g.D.Composed.machines c.args.delayed.now) c.args.line.now (keys c.args.cache.now) c.args.points.now c.requires.whole c.args.place p c.item-position.ensures
    c.args.cache.now c.requires.entries c.in-Some.arcs.now c.in-Some.ensures.arcs c.number_point.new.out.items c.in_ok-number_point.ensures c.args.fst.now c.requires.filling c.arcs_are_small.ensures)

pub returns-clause-small : goal.returns-clause-small
returns-clause-small g c =
    let put = c.in_ok-fill_state.ensures ∙ ap (λ (xs : List (Arc g.row.W-Wide.Denot ℕ)). record { start = c.args.fst.now.start; states = changed (filled c.last_weight-last.result xs) c.args.fst.now.states c.args.place }) c.deref.ensures.value in
    let p = point c.item-position.result.0 c.item-position.result.1 in
    whole_small g.W.Weight.KIND g.W.Weight.value g.W.Weight.wide_value (g.D.Composed.machines c.args.delayed.now) c.args.line.now (keys c.args.cache.now) c.args.points.now c.requires.whole c.args.place p c.item-position.ensures
    c.args.cache.now c.requires.entries c.in-Some.arcs.now c.in-Some.ensures.arcs c.number_point.new.out.items c.in_ok-number_point.ensures c.args.fst.now c.requires.filling c.arcs_are_small.ensures c.requires.small
    c.last_weight-last.result c.fill_state.new.fst c.last_weight-last.ensures.range put

pub returns-clause-filling : goal.returns-clause-filling
returns-clause-filling g c =
    let put = c.in_ok-fill_state.ensures ∙ ap (λ (xs : List (Arc g.row.W-Wide.Denot ℕ)). record { start = c.args.fst.now.start; states = changed (filled c.last_weight-last.result xs) c.args.fst.now.states c.args.place }) c.deref.ensures.value in
    let p = point c.item-position.result.0 c.item-position.result.1 in
    whole_more g.W.Weight.KIND g.W.Weight.value g.W.Weight.wide_value (g.D.Composed.machines c.args.delayed.now) c.args.line.now (keys c.args.cache.now) c.args.points.now c.requires.whole c.args.place p c.item-position.ensures
    c.args.cache.now c.requires.entries c.in-Some.arcs.now c.in-Some.ensures.arcs c.number_point.new.out.items c.in_ok-number_point.ensures c.args.fst.now c.requires.filling
    c.last_weight-last.result c.fill_state.new.fst c.last_weight-last.ensures.value put
