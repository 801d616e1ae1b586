use Rattle.std.proofs.Common.{◌≡◌, ◌≤◌, true≢false, List, sym, ap, subst, ◌∙◌, arith}
use Rattle.std.proofs.lemmas.List.{take_all}
use Rattle.fst_machine.proofs.Elements.{at_Has}
use Rattle.fst_determinize.specs.Kept.{HeldAs, member_as}
use Rattle.fst_determinize.specs.Subsets.{Member}
use Rattle.fst_nbest.specs.Ready.{count_in, dist_in}
use Rattle.fst_select.specs.Outlook.{IsLeastTight}
use Rattle.fst_select.proofs.LeastLeft.{left_shortest, tight_kept, tight_less, tight_passed}
use Rattle.fst_select.proofs.outlook.Outlook.left.Goals.{then-count-least, else-count-least}
use Rattle.fst_select.proofs.outlook.Outlook.left.Goals as goal

pub through-requires-clause-state : goal.through-requires-clause-state
through-requires-clause-state g c = c.requires.members.state (member_as g.W.Weight.wide_value c.member_at-member.result) (at_Has c.args.subset.now c.loop-place.place _ c.member_at-member.ensures)

pub through-requires-clause-modest : goal.through-requires-clause-modest
through-requires-clause-modest g c = c.requires.members.modest (member_as g.W.Weight.wide_value c.member_at-member.result) (at_Has c.args.subset.now c.loop-place.place _ c.member_at-member.ensures)

pub loop-place-preserved-then-not-is_same : goal.loop-place-preserved-then-not-is_same
loop-place-preserved-then-not-is_same g c =
    let wide = g.W.Weight.wide_value in
    let o = c.args.self.now in
    tight_passed g.W.Weight.KIND (dist_in wide o.dist) (wide c.args.by) (wide c.args.total) (count_in o.count) c.args.subset.now c.loop-place.place
    (member_as wide c.member_at-member.result) c.loop-place.least c.member_at-member.ensures c.loop-place.invariant (λ tight. true≢false (sym (c.is_same.ensures.1 (c.through.ensures ∙ tight)) ∙ c.if-not-is_same.true))

pub loop-place-preserved : goal.loop-place-preserved
loop-place-preserved g c =
    let wide = g.W.Weight.wide_value in
    let o = c.args.self.now in
    let m = member_as wide c.member_at-member.result in
    let state = ap (λ (h : HeldAs g.row.W-Wide.Denot). h.state) c.member.view_is in
    let read : c.count_at-count.result ≡ count_in o.count m.state = c.count_at-count.ensures ∙ ap (count_in o.count) state in
    let low : count_in o.count m.state ≤ 4294967295 = omega (arith, read) in
    let tight = sym c.through.ensures ∙ c.is_same.ensures.0 c.if-not-is_same.false in
    elim c.if-count-least.branch [
      | then-count-least w ↦ tight_less g.W.Weight.KIND (dist_in wide o.dist) (wide c.args.by) (wide c.args.total) (count_in o.count) c.args.subset.now c.loop-place.place m c.loop-place.least
          c.member_at-member.ensures c.loop-place.invariant c.if-count-least.least (omega (arith, read, w.least-is)) tight low (omega (arith, read, w.if-count-least))
      | else-count-least w ↦ tight_kept g.W.Weight.KIND (dist_in wide o.dist) (wide c.args.by) (wide c.args.total) (count_in o.count) c.args.subset.now c.loop-place.place m c.loop-place.least
          c.member_at-member.ensures c.loop-place.invariant c.if-count-least.least (omega (arith, w.least-is)) low (omega (arith, read, w.if-count-least))
    ]

pub returns : goal.returns
returns g c x sub =
    let wide = g.W.Weight.wide_value in
    let o = c.args.self.now in
    let whole = take_all c.loop-place.place c.args.subset.now (omega (arith, c.loop-place-test.false, c.loop-place.auto.place-end, c.len-place-end.ensures)) in
    left_shortest g.W.Weight.KIND g.W.Weight.value wide o c.machine-fst.ensures.known (wide c.args.by) c.args.subset.now x sub (wide c.args.total) c.requires.total c.requires.solid
    c.requires.due c.loop-place.least
    (subst (λ (ms : List Member). IsLeastTight g.W.Weight.KIND (dist_in wide o.dist) (wide c.args.by) (wide c.args.total) (count_in o.count) ms c.loop-place.least) whole c.loop-place.invariant)
