use Rattle.std.proofs.Common.{◌++◌, ◌<◌, List, length, map, ap, sym, ◌∙◌, subst}
use Rattle.fst_semiring.specs.Cost.{Cost}
use Rattle.fst_machine.specs.Machine.{Arc}
use Rattle.fst_walk.specs.Names.{key_arc}
use Rattle.fst_determinize.specs.Kept.{AreGoodWays, IsModest, WayAs, members_as, ways_as}
use Rattle.fst_determinize.specs.Subsets.{Member}
use Rattle.fst_determinize.specs.Ways.{arcs_by}
use Rattle.fst_determinize.proofs.Holding.{held_all}
use Rattle.fst_determinize.proofs.Machines.{on_ok, sorted_arcs, sorted_good}
use Rattle.fst_determinize.proofs.determinizing.put_sorted_arcs.Goals as goal

pub put_ways-requires-clause-states : goal.put_ways-requires-clause-states
put_ways-requires-clause-states g c = held_all g.R.Kept.value c.members.result.now c.args.subset.now c.members.ensures (λ (n : Member). n.state < length c.args.fst.now.states) c.requires.members.state

pub put_ways-requires-clause-modest : goal.put_ways-requires-clause-modest
put_ways-requires-clause-modest g c = held_all g.R.Kept.value c.members.result.now c.args.subset.now c.members.ensures (λ (n : Member). IsModest n.residual) c.requires.members.modest

pub put_arcs-requires : goal.put_arcs-requires
put_arcs-requires g c =
    let wide = g.W.Weight.wide_value in
    let good = sorted_good g.W.Weight.KIND g.W.Weight.value c.args.fst.now c.requires.weighed wide c.clear.new.self.items c.put_ways.new.out.items c.sort_ways.new.ways.items c.args.subset.now (members_as g.R.Kept.value c.members.result.now) c.requires.members c.clear.ensures.items c.members.ensures c.in_ok-put_ways.ensures c.sort_ways.ensures.same c.sort_ways.ensures.ranked in
    subst (λ (ys : List (WayAs g.row.W-Wide.Denot)). AreGoodWays wide ys) (sym c.as_slice.ensures.value) good

pub returns : goal.returns
returns g c =
    let wide = g.W.Weight.wide_value in
    let arcs = sorted_arcs g.W.Weight.KIND g.W.Weight.value c.args.fst.now c.requires.weighed wide c.clear.new.self.items c.put_ways.new.out.items c.sort_ways.new.ways.items c.args.subset.now (members_as g.R.Kept.value c.members.result.now) c.requires.members c.clear.ensures.items c.members.ensures c.in_ok-put_ways.ensures c.sort_ways.ensures.same c.sort_ways.ensures.ranked in
    on_ok c.put_arcs.result _ _ (λ h. h ∙ ap (λ (bs : List (Arc Cost (List Member))). map (key_arc wide) c.args.out.now.items ++ bs) (ap (λ (ys : List (WayAs g.row.W-Wide.Denot)). arcs_by g.W.Weight.KIND (ways_as wide ys)) c.as_slice.ensures.value ∙ arcs)) c.put_arcs.ensures
