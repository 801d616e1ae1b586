use Rattle.std.proofs.Common.{List, ℕ, subst, arith}
use Rattle.std.specs.List.{All}
use Rattle.std.proofs.lemmas.List.{take_all}
use Rattle.fst_semiring.specs.Semiring.{InRange}
use Rattle.fst_machine.specs.Machine.{Arc}
use Rattle.fst_trim.proofs.Weighed.{all_more}
use Rattle.fst_delayed.proofs.ranging.range_arcs.Goals as goal

pub loop-arc-preserved : goal.loop-arc-preserved
loop-arc-preserved g c =
    let range = λ (a : Arc g.row.W.Denot ℕ). InRange (g.W.Weight.value a.weight) in
    all_more range c.args.arcs.now c.loop-arc.arc-index c.arc-item.result c.loop-arc-test.true c.arc-item.is c.loop-arc.invariant (subst range c.arc.view_is c.widen-wide.ensures.range)

pub returns : goal.returns
returns g c = subst (λ (arcs : List (Arc g.row.W.Denot ℕ)). All (λ a. InRange (g.W.Weight.value a.weight)) arcs) (take_all c.loop-arc.arc-index c.args.arcs.now (omega arith)) c.loop-arc.invariant
