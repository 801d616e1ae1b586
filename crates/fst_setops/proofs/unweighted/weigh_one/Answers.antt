use Rattle.std.proofs.Common.{◌≡◌, ℕ, List, refl, subst, arith}
use Rattle.std.specs.List.{All}
use Rattle.std.proofs.lemmas.List.{take_all}
use Rattle.fst_semiring.specs.Semiring.{one_of}
use Rattle.fst_machine.specs.Machine.{Arc}
use Rattle.fst_trim.proofs.Weighed.{all_more}
use Rattle.fst_setops.proofs.unweighted.weigh_one.Goals as goal

pub loop-arc-preserved : goal.loop-arc-preserved
loop-arc-preserved g c =
    let one = λ (a : Arc g.row.W.Denot ℕ). g.W.Weight.value a.weight ≡ one_of g.W.Weight.KIND in
    all_more one c.args.arcs.now c.loop-arc.arc-index c.arc-item.result c.loop-arc-test.true c.arc-item.is c.loop-arc.invariant (subst one c.arc.view_is (c.is_one.ensures.0 c.if-not-is_one.false))

pub returns : goal.returns
returns g c =
    let all = subst (λ (arcs : List (Arc g.row.W.Denot ℕ)). All (λ a. g.W.Weight.value a.weight ≡ one_of g.W.Weight.KIND) arcs) (take_all c.loop-arc.arc-index c.args.arcs.now (omega arith)) c.loop-arc.invariant in
    ((λ e. all), (λ h. refl))
