use Rattle.std.proofs.Common.{List, ap, ◌∙◌, subst, arith}
use Rattle.std.proofs.lemmas.List.{take_all}
use Rattle.fst_machine.specs.Machine.{Arc}
use Rattle.fst_determinize.specs.Subsets.{AscendsBy}
use Rattle.fst_determinize.proofs.OneMember.{ascends_more}
use Rattle.fst_determinize.proofs.single.labels_ascend.Goals as goal

pub loop-arc-preserved : goal.loop-arc-preserved
loop-arc-preserved g c =
    let label = c.from-label.ensures ∙ ap (λ a. a.ilabel) c.arc.view_is in
    let high = c.if-label-least.false in
    let more = ascends_more (λ a. a.ilabel) c.args.arcs.now c.loop-arc.arc-index c.arc-item.result c.loop-arc.least _ c.loop-arc-test.true c.arc-item.is c.loop-arc.invariant.ascends c.loop-arc.invariant.below (omega (arith, label, high)) (omega (arith, label)) in
    record { ascends = more.0; below = more.1 }

pub returns : goal.returns
returns g c t = subst (λ (bs : List (Arc g.row.W.Denot _)). AscendsBy (λ a. a.ilabel) bs) (take_all c.loop-arc.arc-index c.args.arcs.now (omega arith)) c.loop-arc.invariant.ascends
