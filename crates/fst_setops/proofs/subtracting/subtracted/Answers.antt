use Rattle.std.proofs.Common.{ℕ, subst}
use Rattle.std.specs.Result.{IfOk}
use Rattle.fst_machine.specs.Graph.{Graph}
use Rattle.fst_machine.specs.Machine.{valued}
use Rattle.fst_walk.specs.Answers as walked
use Rattle.fst_setops.specs.Difference.{Rest}
use Rattle.fst_setops.specs.Named.{HasNames}
use Rattle.fst_setops.proofs.Resorted.{sorted_stands, sorted_subtraction}
use Rattle.fst_setops.proofs.subtracting.subtracted.Goals as goal

pub walked-requires-2-clause-sorted : goal.walked-requires-2-clause-sorted
walked-requires-2-clause-sorted g c = sorted_stands c.args.b.now c.in_ok-sorted.sorted c.in_ok-sorted.ensures.machine

pub returns-clause-made : goal.returns-clause-made
returns-clause-made g c =
    let value = g.W.Weight.value in
    subst (λ (h : Graph (Rest ℕ ℕ)). IfOk c.walked-2.result (λ r. IfOk r (λ m. HasNames h (valued value m))))
    (sorted_subtraction value c.args.a.now c.args.b.now c.in_ok-sorted.sorted c.in_ok-sorted.ensures.machine) c.walked-2.ensures.made

pub returns-clause-exact : goal.returns-clause-exact
returns-clause-exact g c =
    subst (λ (h : Graph (Rest ℕ ℕ)). IfOk c.walked-2.result (walked.IsExactly h c.args.max_states))
    (sorted_subtraction g.W.Weight.value c.args.a.now c.args.b.now c.in_ok-sorted.sorted c.in_ok-sorted.ensures.machine) c.walked-2.ensures.exact
