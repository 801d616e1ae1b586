use Rattle.std.proofs.Common.{ap, ◌∙◌, arith}
use Rattle.std.proofs.lemmas.List.{take_all}
use Rattle.fst_determinize.specs.Kept.{member_as}
use Rattle.fst_machine.proofs.Elements.{at_Has}
use Rattle.fst_nbest.specs.Ready.{dist_in}
use Rattle.fst_select.specs.Keys.{best_total}
use Rattle.fst_select.proofs.LeastLeft.{total_more}
use Rattle.fst_select.proofs.outlook.Outlook.total.Goals as goal

pub through-requires-clause-state : goal.through-requires-clause-state
through-requires-clause-state g c = c.requires.members.state (member_as g.W.Weight.wide_value c.member_at-member.result) (at_Has c.args.subset.now c.loop-place.place _ c.member_at-member.ensures)

pub through-requires-clause-modest : goal.through-requires-clause-modest
through-requires-clause-modest g c = c.requires.members.modest (member_as g.W.Weight.wide_value c.member_at-member.result) (at_Has c.args.subset.now c.loop-place.place _ c.member_at-member.ensures)

pub loop-place-preserved : goal.loop-place-preserved
loop-place-preserved g c =
    let wide = g.W.Weight.wide_value in
    total_more g.W.Weight.KIND (dist_in wide c.args.self.now.dist) (wide c.args.by) c.args.subset.now c.loop-place.place (member_as wide c.member_at-member.result)
    (wide c.loop-place.best) (wide c.through.result) _ c.member_at-member.ensures c.loop-place.invariant c.through.ensures c.wide_plus-best.ensures.sum

pub returns : goal.returns
returns g c =
    let wide = g.W.Weight.wide_value in
    let whole = take_all c.loop-place.place c.args.subset.now (omega (arith, c.loop-place-test.false, c.loop-place.auto.place-end, c.len-place-end.ensures)) in
    c.loop-place.invariant ∙ ap (best_total g.W.Weight.KIND (dist_in wide c.args.self.now.dist) (wide c.args.by)) whole
