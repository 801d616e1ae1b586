use Rattle.std.proofs.Common.{◌≡◌, ◌<◌, ℕ, Bool, true, false, length, sym, ap, ◌∙◌, subst, append-nil}
use Rattle.fst_semiring.specs.Semiring.{times}
use Rattle.fst_machine.specs.Machine.{Arc}
use Rattle.fst_machine.proofs.Changes.{read_as}
use Rattle.fst_distance.specs.Values.{value_in}
use Rattle.fst_distance.proofs.Lists.{value_read}
use Rattle.fst_select.specs.Thinned.{arc_passes, is_within}
use Rattle.fst_select.proofs.ThinnedMachine.{keep_step}
use Rattle.fst_select.proofs.thinning.keep_arcs.Given.{Over}
use Rattle.fst_select.proofs.thinning.keep_arcs.Goals.{After-passes}
use Rattle.fst_select.proofs.thinning.keep_arcs.Goals as goal

-- the arc that is looked at, as a value
abbrev arc_at : (g : Over) (c : After-passes g) → Arc g.row.W.Denot ℕ
arc_at g c = record { ilabel = c.arc.inside.ilabel; olabel = c.arc.inside.olabel; weight = c.arc.inside.weight; next = c.arc.inside.next }

-- the answer for it is that of the list
answer : (g : Over) (c : After-passes g) (b : Bool) → c.passes.result ≡ b → arc_passes g.W.Weight.value g.W.Weight.KIND (g.W.Weight.wide_value c.args.bound) (value_in g.W.Weight.wide_value c.args.to_finals.now) (g.W.Weight.wide_value c.args.own) (arc_at g c) ≡ b
answer g c b is =
    let w = g.W.Weight in
    let y = arc_at g c in
    let read = read_as c.args.arcs.now c.loop-arc.arc-index y c.arc-item.result c.arc.view_is c.arc-item.is in
    let near = subst (λ (a : Arc _ ℕ). a.next < length c.args.to_finals.now) (sym read) (c.requires.ends c.loop-arc.arc-index y c.loop-arc-test.true) in
    let value = value_read w.wide_value c.args.to_finals.now c.arc.inside.next c.index-to_finals-arc.result near c.index-to_finals-arc.is in
    ap (λ v. is_within (w.wide_value c.args.bound) (times w.KIND (w.wide_value c.args.own) (times w.KIND (w.value c.arc.inside.weight) v))) value ∙ (sym c.passes.ensures ∙ is)

pub loop-arc-preserved-then-not-passes : goal.loop-arc-preserved-then-not-passes
loop-arc-preserved-then-not-passes g c =
    let at = (goal.at.loop-arc-preserved-then-not-passes g c).After-passes in
    keep_step _ c.args.arcs.now c.loop-arc.kept.items c.loop-arc.kept.items c.loop-arc.arc-index (arc_at g at) false c.loop-arc-test.true
    (read_as c.args.arcs.now c.loop-arc.arc-index (arc_at g at) c.arc-item.result c.arc.view_is c.arc-item.is) (answer g at false c.if-not-passes.true) c.loop-arc.invariant (sym (append-nil c.loop-arc.kept.items))

pub loop-arc-preserved : goal.loop-arc-preserved
loop-arc-preserved g c =
    let at = (goal.at.loop-arc-preserved g c).After-passes in
    keep_step _ c.args.arcs.now c.loop-arc.kept.items c.push.new.self.items c.loop-arc.arc-index (arc_at g at) true c.loop-arc-test.true
    (read_as c.args.arcs.now c.loop-arc.arc-index (arc_at g at) c.arc-item.result c.arc.view_is c.arc-item.is) (answer g at true c.if-not-passes.false) c.loop-arc.invariant c.in_ok-push.ensures.items
