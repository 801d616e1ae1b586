use Rattle.std.proofs.Common.{ap, sym, length, subst, ◌∙◌}
use Rattle.fst_machine.specs.Machine.{IsMachine, Machine}
use Rattle.fst_semiring.specs.Cost.{Cost}
use Rattle.fst_distance.proofs.View.{Reads, reads, view_size, view_machine}
use Rattle.fst_distance.proofs.pushing.Pushing.states.Given.{Over}
use Rattle.fst_distance.proofs.pushing.Pushing.states.Goals.{After-fst}
use Rattle.fst_distance.proofs.pushing.Pushing.states.Goals as goal

-- what is read of the pushing
sees : (g : Over) (c : After-fst g) → Reads g.W.Weight.KIND g.W.Weight.value g.W.Weight.wide_value c.self.inside.distances.items c.args.self.now c.fst.result.now
sees g c = reads g.W.Weight.KIND g.W.Weight.value g.W.Weight.wide_value c.self.inside.distances.items _ _ _ c.fst.ensures c.self.invariant c.self.view_is

pub returns-clause-value : goal.returns-clause-value
returns-clause-value g c =
    let w = g.W.Weight in
    let r = sees g (goal.at.returns-clause-value g c).After-fst in
    c.states.ensures.value ∙ (sym (view_size w.KIND w.value w.wide_value c.fst.result.now c.self.inside.distances.items r.size r.has) ∙ ap (λ (m : Machine Cost). length m.states) r.view_is)

pub returns-clause-machine : goal.returns-clause-machine
returns-clause-machine g c =
    let w = g.W.Weight in
    let r = sees g (goal.at.returns-clause-machine g c).After-fst in
    subst (λ (m : Machine Cost). IsMachine (λ v. v) m) r.view_is (view_machine w.KIND w.value w.wide_value c.fst.result.now c.self.inside.distances.items r.size r.has c.states.ensures.machine)
