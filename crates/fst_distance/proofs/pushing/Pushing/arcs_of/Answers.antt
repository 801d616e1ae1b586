use Rattle.std.proofs.Common.{length, ap, ◌∙◌}
use Rattle.fst_semiring.specs.Cost.{Cost}
use Rattle.fst_machine.specs.Graph.{graph_of}
use Rattle.fst_machine.specs.Machine.{Machine}
use Rattle.fst_distance.specs.Values.{value_in}
use Rattle.fst_distance.proofs.Entering.{arcs_count}
use Rattle.fst_distance.proofs.View.{Reads, low_read, reads}
use Rattle.fst_distance.proofs.pushing.Pushing.arcs_of.Given.{Over}
use Rattle.fst_distance.proofs.pushing.Pushing.arcs_of.Goals.{After-fst}
use Rattle.fst_distance.proofs.pushing.Pushing.arcs_of.Goals as goal

-- what is read of the pushing
sees : (g : Over) (c : After-fst g) → Reads g.W.Weight.KIND g.W.Weight.value g.W.Weight.wide_value c.self.inside.distances.items c.args.self.now c.fst.result.now
sees g c = reads g.W.Weight.KIND g.W.Weight.value g.W.Weight.wide_value c.self.inside.distances.items _ _ _ c.fst.ensures c.self.invariant c.self.view_is

pub arcs-requires : goal.arcs-requires
arcs-requires g c = low_read g.W.Weight.KIND g.W.Weight.value g.W.Weight.wide_value _ _ _ (sees g (goal.at.arcs-requires g c).After-fst) c.args.state c.requires

pub returns : goal.returns
returns g c =
    let w = g.W.Weight in
    arcs_count w.KIND w.value (value_in w.wide_value c.self.inside.distances.items) c.fst.result.now c.args.state c.args.state c.arcs.result.now c.arcs.ensures ∙ ap (λ (m : Machine Cost). length ((graph_of m).arcs c.args.state)) (sees g (goal.at.returns g c).After-fst).view_is
