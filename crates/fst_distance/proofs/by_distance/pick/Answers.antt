use Rattle.std.proofs.Common.{◌≡◌, ◌<◌, ◌++◌, ◌∷◌, [], ℕ, ◌+◌, List, Some, length, get_or, slice_get, take, sym, ap, ◌∙◌, subst}
use Rattle.std.proofs.lemmas.List.{take_more}
use Rattle.std.proofs.lemmas.Option.{slice_get-get_or}
use Rattle.fst_distance.specs.Values.{Picks}
use Rattle.fst_distance.proofs.Picked.{picks_push}
use Rattle.fst_distance.proofs.by_distance.pick.Goals as goal

pub loop-place-preserved : goal.loop-place-preserved
loop-place-preserved g c =
    let all = c.args.all.now in
    let places = c.args.places.now in
    let i = c.loop-place.place-index in
    let low : i < length places = c.loop-place-test.true in
    let p = get_or places i 0 in
    let near : p < length all = c.requires i 0 low in
    let x = c.index-all-place.result in
    let there : slice_get all p ≡ Some x = slice_get-get_or all p x near ∙ ap Some (sym c.index-all-place.is) in
    let more = picks_push (take i places) all c.loop-place.picked.items p x there c.loop-place.invariant in
    subst (λ ys. Picks (take (i + 1) places) all ys) (sym c.in_ok-push.ensures.items) (subst (λ (ps : List ℕ). Picks ps all (c.loop-place.picked.items ++ x ∷ [])) (sym (take_more places i 0 low)) more)
