use Rattle.std.proofs.Common.{subst, arith}
use Rattle.std.proofs.lemmas.List.{length-map}
use Rattle.fst_machine.specs.Graph.{graph_of}
use Rattle.fst_machine.specs.Machine.{valued, valued_state}
use Rattle.fst_walk.specs.Answers.{Stops}
use Rattle.fst_walk.proofs.Numbered.{named_accessible}
use Rattle.fst_setops.specs.Difference.{subtraction}
use Rattle.fst_setops.specs.Named.{HasNames}
use Rattle.fst_setops.specs.Subtracting.{NumberedParts}
use Rattle.fst_setops.proofs.Answering.{never_out, refuses_difference, stopped_exactly, walked_exactly}
use Rattle.fst_setops.proofs.Machines.{epsilon_free, single}
use Rattle.fst_setops.proofs.Numbered.{numbered_subtracts}
use Rattle.fst_setops.proofs.Remaining.{remaining}
use Rattle.fst_setops.proofs.subtracting.difference.Goals as goal

pub returns-in-Some-clause-exact : goal.returns-in-Some-clause-exact
returns-in-Some-clause-exact g c =
    let value = g.W.Weight.value in
    refuses_difference g.W.Weight.KIND (valued value c.args.a.now) (valued value c.args.b.now) c.args.max_states c.in-Some.fault (c.in-Some.ensures c.args.max_states)

pub stopped-requires : goal.stopped-requires
stopped-requires g c place is =
    let value = g.W.Weight.value in
    let a = graph_of (valued value c.args.a.now) in
    let b = graph_of (valued value c.args.b.now) in
    let stops : Stops (subtraction value c.args.a.now c.args.b.now) c.args.max_states c.in-Ok-Err.fault = (c.in-Ok-Err.ensures.exact c.in-Ok-Err.fault).0 c.in-Ok-Err.field-0-is in
    never_out a b c.weigh.ensures.ranged c.range_finals.ensures c.args.max_states place (subst (Stops (subtraction value c.args.a.now c.args.b.now) c.args.max_states) is stops)

pub returns-in-Ok-Ok-clause-subtracts : goal.returns-in-Ok-Ok-clause-subtracts
returns-in-Ok-Ok-clause-subtracts g c h =
    let value = g.W.Weight.value in
    let a = valued value c.args.a.now in
    let b = valued value c.args.b.now in
    let fit = c.in_default.ensures in
    numbered_subtracts (graph_of a) (graph_of b) h.names g.W.Weight.KIND (single b fit.deterministic) (epsilon_free b fit.free) (valued value c.in-Ok-Ok.made) h.named.numbered

pub returns-in-Ok-Ok-clause-remains : goal.returns-in-Ok-Ok-clause-remains
returns-in-Ok-Ok-clause-remains g c x z w =
    let value = g.W.Weight.value in
    let a = valued value c.args.a.now in
    let b = valued value c.args.b.now in
    let fit = c.in_default.ensures in
    let h : HasNames (subtraction value c.args.a.now c.args.b.now) (valued value c.in-Ok-Ok.made) = rw c.in-Ok-Ok.field-0-is at c.in-Ok-Ok.ensures.made in
    remaining g.W.Weight.KIND (graph_of a) (graph_of b) (graph_of (valued value c.in-Ok-Ok.made)) (NumberedParts h.names)
    (numbered_subtracts (graph_of a) (graph_of b) h.names g.W.Weight.KIND (single b fit.deterministic) (epsilon_free b fit.free) (valued value c.in-Ok-Ok.made) h.named.numbered) x z w

pub returns-in-Ok-Ok-clause-accessible : goal.returns-in-Ok-Ok-clause-accessible
returns-in-Ok-Ok-clause-accessible g c p low =
    let value = g.W.Weight.value in
    let made = c.in-Ok-Ok.made in
    let h : HasNames (subtraction value c.args.a.now c.args.b.now) (valued value made) = rw c.in-Ok-Ok.field-0-is at c.in-Ok-Ok.ensures.made in
    let size = length-map made.states (valued_state value) in
    named_accessible (subtraction value c.args.a.now c.args.b.now) h.names (valued value made) h.named p (omega (arith, size, low))

pub returns-in-Ok-Ok-clause-exact : goal.returns-in-Ok-Ok-clause-exact
returns-in-Ok-Ok-clause-exact g c =
    let value = g.W.Weight.value in
    walked_exactly g.W.Weight.KIND (valued value c.args.a.now) (valued value c.args.b.now) c.args.max_states c.in_default.ensures c.in-Ok-Ok.made c.in-Ok-Ok.made (rw c.in-Ok-Ok.field-0-is at c.in-Ok-Ok.ensures.exact)

pub returns-in-Ok-Err-clause-exact : goal.returns-in-Ok-Err-clause-exact
returns-in-Ok-Err-clause-exact g c =
    let value = g.W.Weight.value in
    stopped_exactly g.W.Weight.KIND (valued value c.args.a.now) (valued value c.args.b.now) c.args.max_states c.in_default.ensures c.in-Ok-Err.fault c.stopped.result c.stopped.ensures (rw c.in-Ok-Err.field-0-is at c.in-Ok-Err.ensures.exact)
