use Rattle.std.proofs.Common.{◌≡◌, ◌++◌, ◌∷◌, [], ◌<◌, List, ℕ, Some, get_or, length, map, slice_get, refl, sym, ap, ap₂, ◌∙◌, arith}
use Rattle.std.proofs.lemmas.List.{map-append, map_more, take_all}
use Rattle.std.proofs.lemmas.Option.{get_or_from_slice_get, slice_get_read}
use Rattle.fst_lattice.specs.Phases.{Laborer}
use Rattle.fst_lattice.specs.Walks.{LineWalk}
use Rattle.fst_lattice.proofs.answering.shares_of.Goals as goal

pub loop-number-preserved : goal.loop-number-preserved
loop-number-preserved g c =
    let n : ℕ = c.loop-number.number in
    let workers = c.args.workers.now in
    let worker : Laborer g.row.W-Wide.Denot g.row.M.Denot = c.index-workers-number.result in
    let low : c.loop-number.number < length c.args.workers.now = omega arith in
    let at : slice_get workers n ≡ Some worker = slice_get_read workers (length workers) n worker refl low c.index-workers-number.is in
    let here : get_or workers n worker ≡ worker = get_or_from_slice_get workers n worker worker at in
    ap (map (λ s. s.jobs.now)) c.in_ok-push.ensures.items
    ∙ (map-append (λ s. s.jobs.now) c.loop-number.shares.items (_ ∷ [])
    ∙ (ap₂ (λ (xs : List (List LineWalk)) (js : List LineWalk). xs ++ js ∷ []) c.loop-number.invariant (c.jobs.ensures ∙ ap (λ (w : Laborer g.row.W-Wide.Denot g.row.M.Denot). w.jobs) (sym here))
    ∙ sym (map_more (λ (w : Laborer g.row.W-Wide.Denot g.row.M.Denot). w.jobs) workers n worker low)))

pub returns : goal.returns
returns g c = c.loop-number.invariant ∙ ap (map (λ (w : Laborer g.row.W-Wide.Denot g.row.M.Denot). w.jobs)) (take_all c.loop-number.number c.args.workers.now (omega arith))
