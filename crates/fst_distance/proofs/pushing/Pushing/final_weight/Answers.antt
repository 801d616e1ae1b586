use Rattle.std.proofs.Common.{◌<◌, ap, sym, length, ◌∙◌}
use Rattle.fst_machine.specs.Machine.{Machine}
use Rattle.fst_machine.specs.Graph.{graph_of}
use Rattle.fst_semiring.specs.Cost.{Cost}
use Rattle.fst_semiring.specs.Division.{push_quotient}
use Rattle.fst_distance.proofs.Bounds.{distance_wide, final_within}
use Rattle.fst_distance.proofs.View.{Reads, low_read, own_within, reads, view_final}
use Rattle.fst_distance.proofs.pushing.Pushing.final_weight.Given.{Over}
use Rattle.fst_distance.proofs.pushing.Pushing.final_weight.Goals.{After-fst}
use Rattle.fst_distance.proofs.pushing.Pushing.final_weight.Goals as goal

-- what is read of the pushing
sees : (g : Over) (c : After-fst g) → Reads g.W.Weight.KIND g.W.Weight.value g.W.Weight.wide_value c.self.inside.distances.items c.args.self.now c.fst.result.now
sees g c = reads g.W.Weight.KIND g.W.Weight.value g.W.Weight.wide_value c.self.inside.distances.items _ _ _ c.fst.ensures c.self.invariant c.self.view_is

-- the state is one of its machine
low : (g : Over) (c : After-fst g) → c.args.state < length c.fst.result.now.states
low g c = low_read g.W.Weight.KIND g.W.Weight.value g.W.Weight.wide_value _ _ _ (sees g c) c.args.state c.requires

pub final_weight-last-requires : goal.final_weight-last-requires
final_weight-last-requires g c = low g (goal.at.final_weight-last-requires g c).After-fst

pub push_divide-requires-clause-by_wide : goal.push_divide-requires-clause-by_wide
push_divide-requires-clause-by_wide g c =
    let w = g.W.Weight in
    let at = (goal.at.push_divide-requires-clause-by_wide g c).After-fst in
    distance_wide (w.wide_value c.index.result.now) (own_within w.KIND w.value w.wide_value c.fst.result.now c.self.inside.distances.items (sees g at).size (sees g at).has c.args.state c.index.result.now (low g at) c.index.ensures)

pub returns-clause-value : goal.returns-clause-value
returns-clause-value g c =
    let w = g.W.Weight in
    let at = (goal.at.returns-clause-value g c).After-fst in
    let view = view_final w.KIND w.value w.wide_value c.fst.result.now c.self.inside.distances.items (sees g at).size (sees g at).has c.args.state c.final_weight-last.result c.index.result.now (low g at) c.final_weight-last.ensures c.index.ensures in
    c.push_divide.ensures.quotient ∙ (ap (λ v. push_quotient w.KIND v (w.wide_value c.index.result.now)) c.widen.ensures.same ∙ (sym view ∙ ap (λ (m : Machine Cost). (graph_of m).final c.args.state) (sees g at).view_is))

pub returns-clause-range : goal.returns-clause-range
returns-clause-range g c =
    let w = g.W.Weight in
    let at = (goal.at.returns-clause-range g c).After-fst in
    let own = own_within w.KIND w.value w.wide_value c.fst.result.now c.self.inside.distances.items (sees g at).size (sees g at).has c.args.state c.index.result.now (low g at) c.index.ensures in
    final_within w.KIND (w.value c.final_weight-last.result) (w.wide_value c.index.result.now) (w.wide_value c.push_divide.result) (c.push_divide.ensures.quotient ∙ ap (λ v. push_quotient w.KIND v (w.wide_value c.index.result.now)) c.widen.ensures.same) c.widen.ensures.range own
