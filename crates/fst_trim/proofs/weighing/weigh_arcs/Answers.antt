use Rattle.std.proofs.Common.{List, subst, arith}
use Rattle.std.specs.List.{All}
use Rattle.std.proofs.lemmas.List.{take_all}
use Rattle.fst_semiring.specs.Semiring.{InRange, IsCost}
use Rattle.fst_machine.specs.Machine.{Arc}
use Rattle.std.proofs.Common.{ℕ}
use Rattle.fst_trim.proofs.Weighed.{all_more}
use Rattle.fst_trim.proofs.weighing.weigh_arcs.Goals as goal

pub loop-arc-preserved : goal.loop-arc-preserved
loop-arc-preserved g c =
    let kind = λ (a : Arc g.row.W.Denot ℕ). IsCost g.W.Weight.KIND (g.W.Weight.value a.weight) in
    let range = λ (a : Arc g.row.W.Denot ℕ). InRange (g.W.Weight.value a.weight) in
    record {
      kind = all_more kind c.args.arcs.now c.loop-arc.arc-index c.arc-item.result c.loop-arc-test.true c.arc-item.is c.loop-arc.invariant.kind (subst kind c.arc.view_is c.widen-wide.ensures.kind);
      range = all_more range c.args.arcs.now c.loop-arc.arc-index c.arc-item.result c.loop-arc-test.true c.arc-item.is c.loop-arc.invariant.range (subst range c.arc.view_is c.widen-wide.ensures.range);
    }

pub returns-clause-kind : goal.returns-clause-kind
returns-clause-kind g c = subst (λ (arcs : List (Arc g.row.W.Denot ℕ)). All (λ a. IsCost g.W.Weight.KIND (g.W.Weight.value a.weight)) arcs) (take_all c.loop-arc.arc-index c.args.arcs.now (omega arith)) c.loop-arc.invariant.kind

pub returns-clause-range : goal.returns-clause-range
returns-clause-range g c = subst (λ (arcs : List (Arc g.row.W.Denot ℕ)). All (λ a. InRange (g.W.Weight.value a.weight)) arcs) (take_all c.loop-arc.arc-index c.args.arcs.now (omega arith)) c.loop-arc.invariant.range
