use Rattle.std.proofs.Common.{ℕ, subst, ap, ◌∙◌, arith}
use Rattle.std.proofs.lemmas.Option.{slice_get_within}
use Rattle.fst_semiring.specs.Cost.{Cost}
use Rattle.fst_semiring.specs.Semiring.{IsCost}
use Rattle.fst_machine.specs.Machine.{Arc}
use Rattle.fst_nbest.proofs.Counted.{item_at}
use Rattle.fst_nbest.proofs.Gathered.{one_more}
use Rattle.fst_nbest.proofs.measured.is_any_better.Goals as goal

pub loop-arc-preserved : goal.loop-arc-preserved
loop-arc-preserved g c =
    let kind = g.W.Weight.KIND in
    one_more (λ (a : Arc g.row.V.Denot ℕ). IsCost kind (g.M.AsMachine.value a.weight)) c.args.arcs.now c.loop-arc.arc-index c.arc-item.result (item_at c.args.arcs.now c.loop-arc.arc-index c.arc-item.result c.loop-arc-test.true c.arc-item.is)
    (subst (λ (w : Cost). IsCost kind w) (c.widened.ensures.same ∙ ap (λ (a : Arc g.row.V.Denot ℕ). g.M.AsMachine.value a.weight) c.arc.view_is) c.wide_compare-order.ensures.kinds.0) c.loop-arc.invariant

pub returns : goal.returns
returns g c k a there = c.loop-arc.invariant k a (let within = slice_get_within c.args.arcs.now k a there in omega (arith, within, c.loop-arc-test.false)) there
