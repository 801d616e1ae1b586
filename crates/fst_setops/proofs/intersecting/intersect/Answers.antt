use Rattle.std.proofs.Common.{Err, sym, subst}
use Rattle.fst_machine.specs.Graph.{graph_of}
use Rattle.fst_machine.specs.Machine.{valued}
use Rattle.fst_compose.proofs.Through.{composition_of}
use Rattle.fst_setops.specs.Answers.{IsExactly, RefusesIntersection}
use Rattle.fst_setops.specs.declared.fault.IntersectFault.{IntersectFault}
use Rattle.fst_setops.specs.declared.fault.IntersectFault.TheVariants.{Memory, NotAcceptor}
use Rattle.fst_setops.proofs.Answering.{composed_exactly, refuses_intersection, uncomposed_exactly}
use Rattle.fst_setops.proofs.Machines.{accepts}
use Rattle.fst_setops.proofs.SameString.{relates_both}
use Rattle.fst_setops.proofs.intersecting.intersect.Goals as goal

pub returns-in-Some-clause-exact : goal.returns-in-Some-clause-exact
returns-in-Some-clause-exact g c =
    let value = g.W.Weight.value in
    let split = c.in-Some.split in
    refuses_intersection g.W.Weight.KIND (valued value c.args.a.now) (valued value c.args.b.now) c.args.max_states (NotAcceptor split.second split.state split.place)
    (c.may_be_composed.ensures.0 c.if-not-may_be_composed.false, c.in-Some.ensures)

pub returns-in-Ok-clause-composes : goal.returns-in-Ok-clause-composes
returns-in-Ok-clause-composes g c h =
    let value = g.W.Weight.value in
    composition_of g.W.Weight.KIND (graph_of (valued value c.args.a.now)) (graph_of (valued value c.args.b.now)) h.names (valued value c.in-Ok.made.fst) h.named.numbered

pub returns-in-Ok-clause-intersects : goal.returns-in-Ok-clause-intersects
returns-in-Ok-clause-intersects g c x z w =
    let value = g.W.Weight.value in
    let a = valued value c.args.a.now in
    let b = valued value c.args.b.now in
    let says = c.in-Ok.ensures.composes.says x z w in
    let both = relates_both g.W.Weight.KIND (graph_of a) (graph_of b) (accepts a c.in_default.ensures.0) (accepts b c.in_default.ensures.1) x z w in
    ((λ r. both.0 (says.0 r)), (λ h. says.1 (both.1 h)))

pub returns-in-Ok-clause-exact : goal.returns-in-Ok-clause-exact
returns-in-Ok-clause-exact g c =
    let value = g.W.Weight.value in
    composed_exactly g.W.Weight.KIND (valued value c.args.a.now) (valued value c.args.b.now) c.args.max_states c.in_default.ensures c.in-Ok.made c.in-Ok.made.fst c.in-Ok.ensures.exact

pub returns-in-Err-clause-exact : goal.returns-in-Err-clause-exact
returns-in-Err-clause-exact g c =
    let value = g.W.Weight.value in
    let a = valued value c.args.a.now in
    let b = valued value c.args.b.now in
    subst (λ (fault : IntersectFault). IsExactly (RefusesIntersection g.W.Weight.KIND a b c.args.max_states) Memory (Err fault)) (sym c.uncomposed.ensures)
    (uncomposed_exactly g.W.Weight.KIND a b c.args.max_states c.in_default.ensures c.in-Err.fault c.in-Err.ensures.exact)
