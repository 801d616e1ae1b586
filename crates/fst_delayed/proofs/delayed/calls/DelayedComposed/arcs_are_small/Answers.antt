use Rattle.std.proofs.Common.{subst}
use Rattle.fst_machine.specs.Machine.{Machine}
use Rattle.fst_delayed.specs.Graphs.{HasSmallArcs}
use Rattle.fst_delayed.proofs.Ranged.{has_small}
use Rattle.fst_delayed.proofs.delayed.calls.DelayedComposed.arcs_are_small.Goals as goal

pub returns : goal.returns
returns g c =
    subst (λ (d : Machine g.row.W.Denot × Machine g.row.W.Denot). HasSmallArcs g.W.Weight.KIND g.W.Weight.value d) c.self.view_is
    (has_small g.W.Weight.KIND g.W.Weight.value (c.self.inside.a.now, c.self.inside.b.now) c.states.ensures.machine c.states-2.ensures.machine c.self.invariant.2 c.self.invariant.3)
