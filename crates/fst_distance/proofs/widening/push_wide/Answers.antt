use Rattle.std.proofs.Common.{◌<◌, ℕ, length, sym, subst}
use Rattle.fst_semiring.specs.Cost.{Cost}
use Rattle.fst_semiring.specs.Semiring.{one_of}
use Rattle.fst_machine.specs.Distance.{IsFinalDistance}
use Rattle.fst_machine.specs.Graph.{graph_of}
use Rattle.fst_machine.specs.Machine.{Machine, valued}
use Rattle.fst_machine.proofs.Valued.{IsMachine-valued}
use Rattle.fst_distance.specs.PushLaws.{NoArcIsZero, PushesPaths}
use Rattle.fst_distance.specs.Totals.{RelatesBy}
use Rattle.fst_distance.proofs.Picked.{machine_some}
use Rattle.fst_distance.proofs.PushedMachine.{pushed_one, pushed_relates}
use Rattle.fst_distance.proofs.PushingPaths.{pushed_paths}
use Rattle.fst_distance.proofs.widening.push_wide.Given.{Over}
use Rattle.fst_distance.proofs.widening.push_wide.Goals.{In_ok-totalled}
use Rattle.fst_distance.proofs.widening.push_wide.Goals as goal

-- no arc of the machine weighs Zero
some : (g : Over) (c : In_ok-totalled g) → NoArcIsZero (valued g.W.Weight.value c.args.fst.now)
some g c = machine_some (valued g.W.Weight.value c.args.fst.now) (IsMachine-valued g.W.Weight.value c.args.fst.now c.states-states.ensures.machine)

pub returns-in-Ok-clause-one : goal.returns-in-Ok-clause-one
returns-in-Ok-clause-one g c =
    let w = g.W.Weight in
    subst (λ (r : Machine Cost). (q : ℕ) → q < length r.states → IsFinalDistance w.KIND (graph_of r) q (one_of w.KIND)) (sym c.in-Ok.ensures)
    (pushed_one w.KIND (valued w.value c.args.fst.now) c.in_ok-totalled.totalled.pushed (w.wide_value c.in_ok-totalled.totalled.total) c.in_ok-totalled.ensures.pushed (some g (goal.at.returns-in-Ok-clause-one g c).In_ok-totalled))

pub returns-in-Ok-clause-paths : goal.returns-in-Ok-clause-paths
returns-in-Ok-clause-paths g c =
    let w = g.W.Weight in
    subst (PushesPaths w.KIND (w.wide_value c.in_ok-totalled.totalled.total) (valued w.value c.args.fst.now)) (sym c.in-Ok.ensures)
    (pushed_paths w.KIND (valued w.value c.args.fst.now) c.in_ok-totalled.totalled.pushed (w.wide_value c.in_ok-totalled.totalled.total) c.in_ok-totalled.ensures.pushed (some g (goal.at.returns-in-Ok-clause-paths g c).In_ok-totalled))

pub returns-in-Ok-clause-relation : goal.returns-in-Ok-clause-relation
returns-in-Ok-clause-relation g c =
    let w = g.W.Weight in
    subst (RelatesBy w.KIND (w.wide_value c.in_ok-totalled.totalled.total) (valued w.value c.args.fst.now)) (sym c.in-Ok.ensures)
    (pushed_relates w.KIND (valued w.value c.args.fst.now) c.in_ok-totalled.totalled.pushed (w.wide_value c.in_ok-totalled.totalled.total) c.in_ok-totalled.ensures.pushed (some g (goal.at.returns-in-Ok-clause-relation g c).In_ok-totalled))
