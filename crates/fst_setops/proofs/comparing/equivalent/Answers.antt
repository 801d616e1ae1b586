use Rattle.std.proofs.Common.{refl}
use Rattle.fst_machine.specs.Graph.{graph_of}
use Rattle.fst_machine.specs.Machine.{valued}
use Rattle.fst_setops.specs.declared.equivalent_fault.EquivalentFault.TheVariants.{StateLimit}
use Rattle.fst_setops.proofs.Machines.{single}
use Rattle.fst_setops.proofs.OneComparison.{compared_exactly, refuses_comparison}
use Rattle.fst_setops.proofs.Transferring.{said_same}
use Rattle.fst_setops.proofs.comparing.equivalent.Goals as goal

pub returns-in-Some-clause-exact : goal.returns-in-Some-clause-exact
returns-in-Some-clause-exact g c =
    let value = g.W.Weight.value in
    refuses_comparison (valued value c.args.a.now) (valued value c.args.b.now) g.W.Weight.KIND c.args.max_states c.in-Some.fault (c.in-Some.ensures c.args.max_states)

pub returns-in-Ok-Some-clause-same : goal.returns-in-Ok-Some-clause-same
returns-in-Ok-Some-clause-same g c =
    let said = rw c.in-Ok-Some.field-0-is at c.in-Ok-Some.ensures.said in
    said_same g.W.Weight.KIND g.W.Weight.wide_value (graph_of (valued g.W.Weight.value c.args.a.now)) (graph_of (valued g.W.Weight.value c.args.b.now)) (single (valued g.W.Weight.value c.args.b.now) c.in_default.ensures.0.2) c.in-Ok-Some.verdict said

pub returns-in-Ok-Some-clause-single : goal.returns-in-Ok-Some-clause-single
returns-in-Ok-Some-clause-single g c = (single (valued g.W.Weight.value c.args.a.now) c.in_default.ensures.0.1, single (valued g.W.Weight.value c.args.b.now) c.in_default.ensures.0.2)

pub returns-in-Ok-Some-clause-exact : goal.returns-in-Ok-Some-clause-exact
returns-in-Ok-Some-clause-exact g c =
    let fits = rw c.in-Ok-Some.field-0-is at c.in-Ok-Some.ensures.fits in
    compared_exactly (valued g.W.Weight.value c.args.a.now) (valued g.W.Weight.value c.args.b.now) g.W.Weight.KIND c.args.max_states c.in-Ok-Some.verdict c.in_default.ensures fits

pub returns-in-Ok-None-clause-exact : goal.returns-in-Ok-None-clause-exact
returns-in-Ok-None-clause-exact g c =
    refuses_comparison (valued g.W.Weight.value c.args.a.now) (valued g.W.Weight.value c.args.b.now) g.W.Weight.KIND c.args.max_states (StateLimit c.args.max_states) (c.in_default.ensures, refl, c.in-Ok-None.ensures.stops c.in-Ok-None.field-0-is)
