use Rattle.std.proofs.Common.{fold, map, take, sym, ap, ◌∙◌}
use Rattle.std.proofs.lemmas.List.Sums.{fold_push}
use Rattle.fst_walk.proofs.Putting.{items_more}
use Rattle.fst_determinize.specs.Kept.{member_as, number_more}
use Rattle.fst_determinize.proofs.subset.numbered.Goals as goal

pub loop-member-preserved : goal.loop-member-preserved
loop-member-preserved g c =
    let value = member_as g.R.Kept.value in
    let members = c.args.members.now in
    let i = c.loop-member.member-index in
    let x = c.member-item.result in
    c.number_more-so_far.ensures
    ∙ (ap (λ n. number_more n (value x)) c.loop-member.invariant
    ∙ (sym (fold_push number_more c.args.number (map value (take i members)) (value x)) ∙ ap (fold number_more c.args.number) (sym (items_more value members i x c.loop-member-test.true c.member-item.is))))
