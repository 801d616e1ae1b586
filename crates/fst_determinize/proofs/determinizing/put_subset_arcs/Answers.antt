use Rattle.std.proofs.Common.{◌++◌, ◌<◌, List, length, map, refl, ap, ◌∙◌, arith}
use Rattle.fst_semiring.specs.Cost.{Cost}
use Rattle.fst_machine.specs.Machine.{Arc}
use Rattle.fst_walk.specs.Names.{key_arc}
use Rattle.fst_determinize.specs.Kept.{IsModest}
use Rattle.fst_determinize.specs.Subsets.{Member}
use Rattle.fst_determinize.proofs.Holding.{held_alone, held_at}
use Rattle.fst_determinize.proofs.Machines.{on_ok}
use Rattle.fst_determinize.proofs.OneMember.{single_arcs, single_good}
use Rattle.fst_determinize.proofs.determinizing.put_subset_arcs.Goals as goal

pub arcs-arcs-requires : goal.arcs-arcs-requires
arcs-arcs-requires g c =
    held_at g.R.Kept.value c.members-members.result.now c.args.subset.now c.members-members.ensures (λ (n : Member). n.state < length c.args.fst.now.states) c.requires.members.state 0 c.index-members-0.result _ (omega (arith, c.if-members-eq1.true)) c.index-members-0.is c.member.view_is

pub put_single_arcs-requires-clause-modest : goal.put_single_arcs-requires-clause-modest
put_single_arcs-requires-clause-modest g c =
    held_at g.R.Kept.value c.members-members.result.now c.args.subset.now c.members-members.ensures (λ (n : Member). IsModest n.residual) c.requires.members.modest 0 c.index-members-0.result c.index-members-0.result (omega (arith, c.if-members-eq1.true)) c.index-members-0.is refl

pub put_single_arcs-requires-clause-not_zero : goal.put_single_arcs-requires-clause-not_zero
put_single_arcs-requires-clause-not_zero g c =
    let alone = held_alone g.R.Kept.value c.members-members.result.now c.args.subset.now c.members-members.ensures c.index-members-0.result c.if-members-eq1.true c.index-members-0.is in
    (single_good g.W.Weight.KIND g.W.Weight.value c.args.fst.now g.R.Kept.value c.index-members-0.result _ c.args.subset.now c.arcs-arcs.result.now alone c.member.view_is c.arcs-arcs.ensures c.requires.weighed c.requires.members).0

pub put_single_arcs-requires-clause-wide : goal.put_single_arcs-requires-clause-wide
put_single_arcs-requires-clause-wide g c =
    let alone = held_alone g.R.Kept.value c.members-members.result.now c.args.subset.now c.members-members.ensures c.index-members-0.result c.if-members-eq1.true c.index-members-0.is in
    (single_good g.W.Weight.KIND g.W.Weight.value c.args.fst.now g.R.Kept.value c.index-members-0.result _ c.args.subset.now c.arcs-arcs.result.now alone c.member.view_is c.arcs-arcs.ensures c.requires.weighed c.requires.members).1

pub returns-then-labels_ascend : goal.returns-then-labels_ascend
returns-then-labels_ascend g c =
    let alone = held_alone g.R.Kept.value c.members-members.result.now c.args.subset.now c.members-members.ensures c.index-members-0.result c.if-members-eq1.true c.index-members-0.is in
    let arcs = single_arcs g.W.Weight.KIND g.W.Weight.value c.args.fst.now g.R.Kept.value c.index-members-0.result _ c.args.subset.now c.arcs-arcs.result.now alone c.member.view_is c.arcs-arcs.ensures (c.labels_ascend.ensures c.if-labels_ascend.true) in
    on_ok c.put_single_arcs.result _ _ (λ h. h ∙ ap (λ (bs : List (Arc Cost (List Member))). map (key_arc g.W.Weight.wide_value) c.args.out.now.items ++ bs) arcs) c.put_single_arcs.ensures
