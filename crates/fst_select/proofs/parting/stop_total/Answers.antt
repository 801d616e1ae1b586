use Rattle.std.proofs.Common.{◌≡◌, ◌+◌, Some, slice_get, sym, ap, ◌∙◌, subst, lit≤, arith}
use Rattle.std.proofs.lemmas.List.{take_all}
use Rattle.fst_semiring.specs.Semiring.{IsWide, times}
use Rattle.fst_semiring.proofs.Ranges.{Within-more, Within-times}
use Rattle.fst_machine.specs.Graph.{graph_of}
use Rattle.fst_machine.specs.Machine.{valued}
use Rattle.fst_machine.proofs.Elements.{at_Has}
use Rattle.fst_trim.proofs.Weighed.{graph_final}
use Rattle.fst_determinize.specs.Kept.{HeldAs, member_as}
use Rattle.fst_determinize.specs.Subsets.{Member}
use Rattle.fst_select.specs.Keys.{best_total}
use Rattle.fst_select.specs.Outlook.{most_by}
use Rattle.fst_select.proofs.LeastLeft.{total_more}
use Rattle.fst_select.proofs.parting.stop_total.Goals as goal

pub final_weight-requires : goal.final_weight-requires
final_weight-requires g c =
    let w = g.W.Weight in
    let held : HeldAs g.row.W-Wide.Denot = record { state = c.member.inside.state; residual = c.member.inside.residual } in
    let m : Member = member_as w.wide_value held in
    let at : slice_get c.args.subset.now c.loop-place.place ≡ Some m = c.member_at-member.ensures ∙ ap (λ (h : HeldAs g.row.W-Wide.Denot). Some (member_as w.wide_value h)) (sym c.member.view_is) in
    c.requires.members.state m (at_Has c.args.subset.now c.loop-place.place m at)

pub wide_times-rest-requires-clause-a_wide : goal.wide_times-rest-requires-clause-a_wide
wide_times-rest-requires-clause-a_wide g c =
    let w = g.W.Weight in
    let held : HeldAs g.row.W-Wide.Denot = record { state = c.member.inside.state; residual = c.member.inside.residual } in
    let m : Member = member_as w.wide_value held in
    let at : slice_get c.args.subset.now c.loop-place.place ≡ Some m = c.member_at-member.ensures ∙ ap (λ (h : HeldAs g.row.W-Wide.Denot). Some (member_as w.wide_value h)) (sym c.member.view_is) in
    Within-more 332306998946228968225951765070086144 1329227995784915872903807060280344575 m.residual (lit≤ tt) (c.requires.members.modest m (at_Has c.args.subset.now c.loop-place.place m at))

pub wide_times-rest-requires-clause-b_wide : goal.wide_times-rest-requires-clause-b_wide
wide_times-rest-requires-clause-b_wide g c =
    subst IsWide (sym c.widen-last.ensures.same) (Within-more 1000000000000000000 1329227995784915872903807060280344575 (g.W.Weight.value c.final_weight.result) (lit≤ tt) c.widen-last.ensures.range)

pub wide_times-own-requires-clause-a_wide : goal.wide_times-own-requires-clause-a_wide
wide_times-own-requires-clause-a_wide g c = Within-more most_by 1329227995784915872903807060280344575 (g.W.Weight.wide_value c.args.by) (lit≤ tt) c.requires.range

pub wide_times-own-requires-clause-b_wide : goal.wide_times-own-requires-clause-b_wide
wide_times-own-requires-clause-b_wide g c =
    let w = g.W.Weight in
    let held : HeldAs g.row.W-Wide.Denot = record { state = c.member.inside.state; residual = c.member.inside.residual } in
    let m : Member = member_as w.wide_value held in
    let at : slice_get c.args.subset.now c.loop-place.place ≡ Some m = c.member_at-member.ensures ∙ ap (λ (h : HeldAs g.row.W-Wide.Denot). Some (member_as w.wide_value h)) (sym c.member.view_is) in
    let last = w.value c.final_weight.result in
    subst IsWide (sym (c.wide_times-rest.ensures.product ∙ ap (times w.KIND m.residual) c.widen-last.ensures.same))
    (Within-more (332306998946228968225951765070086144 + 1000000000000000000) 1329227995784915872903807060280344575 (times w.KIND m.residual last) (lit≤ tt)
    (Within-times w.KIND 332306998946228968225951765070086144 1000000000000000000 m.residual last
    (c.requires.members.modest m (at_Has c.args.subset.now c.loop-place.place m at)) c.widen-last.ensures.range))

pub loop-place-preserved : goal.loop-place-preserved
loop-place-preserved g c =
    let w = g.W.Weight in
    let held : HeldAs g.row.W-Wide.Denot = record { state = c.member.inside.state; residual = c.member.inside.residual } in
    let m : Member = member_as w.wide_value held in
    let at : slice_get c.args.subset.now c.loop-place.place ≡ Some m = c.member_at-member.ensures ∙ ap (λ (h : HeldAs g.row.W-Wide.Denot). Some (member_as w.wide_value h)) (sym c.member.view_is) in
    let final = (graph_of (valued w.value c.args.fst.now)).final in
    let last : final m.state ≡ w.wide_value c.widen-last.result = graph_final w.value c.args.fst.now m.state c.final_weight.result c.final_weight.ensures ∙ sym c.widen-last.ensures.same in
    let by = w.wide_value c.args.by in
    total_more w.KIND final by c.args.subset.now c.loop-place.place m (w.wide_value c.loop-place.best) (w.wide_value c.wide_times-own.result) (w.wide_value c.wide_plus-best.result)
    at c.loop-place.invariant (c.wide_times-own.ensures.product ∙ ap (times w.KIND by) (c.wide_times-rest.ensures.product ∙ ap (times w.KIND m.residual) (sym last))) c.wide_plus-best.ensures.sum

pub returns : goal.returns
returns g c =
    let w = g.W.Weight in
    c.loop-place.invariant ∙ ap (best_total w.KIND (graph_of (valued w.value c.args.fst.now)).final (w.wide_value c.args.by))
    (take_all c.loop-place.place c.args.subset.now (omega (arith, c.loop-place-test.false, c.loop-place.auto.place-end, c.len-place-end.ensures)))
