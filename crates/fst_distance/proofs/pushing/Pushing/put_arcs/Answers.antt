use Rattle.std.proofs.Common.{◌≡◌, ◌<◌, ap, sym, length, map, subst, ◌∙◌, arith}
use Rattle.fst_machine.specs.Machine.{Machine, valued_arc}
use Rattle.fst_machine.specs.Graph.{graph_of}
use Rattle.fst_semiring.specs.Cost.{Cost, plus}
use Rattle.std.specs.List.{All}
use Rattle.fst_semiring.specs.Semiring.{times, Within}
use Rattle.fst_distance.specs.Pushing.{pushed_by}
use Rattle.fst_distance.specs.Values.{most_distance, value_in}
use Rattle.fst_distance.proofs.View.{Reads, low_read, reads, view_arcs, own_some, own_within, all_within, arcs_no_worse, arcs_near}
use Rattle.fst_distance.proofs.pushing.Pushing.put_arcs.Given.{Over}
use Rattle.fst_distance.proofs.pushing.Pushing.put_arcs.Goals.{After-fst-fst}
use Rattle.fst_distance.proofs.pushing.Pushing.put_arcs.Goals as goal

-- what is read of the pushing
sees : (g : Over) (c : After-fst-fst g) → Reads g.W.Weight.KIND g.W.Weight.value g.W.Weight.wide_value c.self.inside.distances.items c.args.self.now c.fst-fst.result.now
sees g c = reads g.W.Weight.KIND g.W.Weight.value g.W.Weight.wide_value c.self.inside.distances.items _ _ _ c.fst-fst.ensures c.self.invariant c.self.view_is

-- the state is one of its machine
low : (g : Over) (c : After-fst-fst g) → c.args.state < length c.fst-fst.result.now.states
low g c = low_read g.W.Weight.KIND g.W.Weight.value g.W.Weight.wide_value _ _ _ (sees g c) c.args.state c.requires

pub index-own-requires : goal.index-own-requires
index-own-requires g c =
    let at = (goal.at.index-own-requires g c).After-fst-fst in
    let below = low g at in
    let size = (sees g at).size in
    omega arith

pub arcs-requires : goal.arcs-requires
arcs-requires g c = low g (goal.at.arcs-requires g c).After-fst-fst

pub put_pushed-requires : goal.put_pushed-requires
put_pushed-requires g c =
    let w = g.W.Weight in
    let r = sees g (goal.at.put_pushed-requires g c).After-fst-fst in
    let low = low g (goal.at.put_pushed-requires g c).After-fst-fst in
    let own = c.index-own.result.now in
    let arcs = c.arcs.result.now in
    let ds = c.self.inside.distances.items in
    let same = sym c.deref.ensures.value in
    record {
      ends = subst (λ xs. All (λ a. a.next < length xs) arcs) same (arcs_near w.KIND w.value w.wide_value c.fst-fst.result.now ds r.size r.has c.states-states.ensures.machine c.args.state arcs low c.arcs.ensures);
      own_not_zero = own_some w.KIND w.value w.wide_value c.fst-fst.result.now ds r.size r.has c.args.state own low c.index-own.ensures;
      own_within = own_within w.KIND w.value w.wide_value c.fst-fst.result.now ds r.size r.has c.args.state own low c.index-own.ensures;
      next_within = subst (λ xs. All (λ d. Within most_distance (w.wide_value d)) xs) same (all_within w.KIND w.value w.wide_value c.fst-fst.result.now ds r.size r.has);
      no_worse = subst (λ xs. All (λ a. plus (w.wide_value own) (times w.KIND (w.value a.weight) (value_in w.wide_value xs a.next)) ≡ w.wide_value own) arcs) same
          (arcs_no_worse w.KIND w.value w.wide_value c.fst-fst.result.now ds r.size r.has c.args.state arcs own low c.arcs.ensures c.index-own.ensures);
    }

pub returns-clause-arcs : goal.returns-clause-arcs
returns-clause-arcs g c =
    let w = g.W.Weight in
    let at = (goal.at.returns-clause-arcs g c).After-fst-fst in
    let view = view_arcs w.KIND w.value w.wide_value c.fst-fst.result.now c.self.inside.distances.items (sees g at).size (sees g at).has c.args.state c.arcs.result.now c.index-own.result.now (low g at) c.arcs.ensures c.index-own.ensures in
    c.in_ok-put_pushed.ensures.arcs ∙ (ap (λ xs. map (λ a. pushed_by w.KIND (value_in w.wide_value xs) (w.wide_value c.index-own.result.now) (valued_arc w.value a)) c.arcs.result.now) c.deref.ensures.value
    ∙ (sym view ∙ ap (λ (m : Machine Cost). (graph_of m).arcs c.args.state) (sees g at).view_is))
