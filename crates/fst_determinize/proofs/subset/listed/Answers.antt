use Rattle.std.proofs.Common.{◌≡◌, ◌++◌, ◌∷◌, [], List, sym, ap, ap₂, ◌∙◌}
use Rattle.fst_semiring.specs.declared.key.Key.{Key}
use Rattle.fst_walk.proofs.Putting.{items_more}
use Rattle.fst_determinize.specs.Kept.{HeldAs, member_as}
use Rattle.fst_determinize.specs.Listing.{ranked_of}
use Rattle.fst_determinize.specs.declared.listing.Ranked.{Ranked}
use Rattle.fst_determinize.proofs.Forms.{at_got, at_low}
use Rattle.fst_determinize.proofs.subset.listed.Goals as goal

pub loop-place-preserved : goal.loop-place-preserved
loop-place-preserved g c =
    let value = g.R.Kept.value in
    let subset = c.args.subset.now in
    let i = c.loop-place.place in
    let m = member_as value c.item-member.result in
    let seen = c.member.inside in
    let added : Ranked = record { state = seen.state; key = c.key.result } in
    let grown : c.push.new.self.items ≡ c.loop-place.members.items ++ added ∷ [] = c.in_ok-push.ensures.items in
    let put : added ≡ ranked_of (member_as value (record { state = seen.state; residual = seen.residual })) = ap (λ (k : Key). record { state = seen.state; key = k }) c.key.ensures in
    let same = ap (λ (h : HeldAs g.row.R.Denot). ranked_of (member_as value h)) c.member.view_is in
    grown
    ∙ (ap₂ (λ (ms : List Ranked) (r : Ranked). ms ++ r ∷ []) c.loop-place.invariant (put ∙ same)
    ∙ sym (items_more ranked_of subset i m (at_low subset i m c.item-member.ensures) (at_got subset i m c.item-member.ensures)))
