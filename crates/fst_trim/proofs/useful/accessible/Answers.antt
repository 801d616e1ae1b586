use Rattle.std.proofs.Common.{sym}
use Rattle.fst_machine.specs.Machine.{valued}
use Rattle.fst_machine.specs.Graph.{graph_of}
use Rattle.fst_trim.proofs.Backward.{walk_marks}
use Rattle.fst_trim.proofs.useful.accessible.Goals as goal

pub returns-in_ok-marks-in-Some-clause-marks : goal.returns-in_ok-marks-in-Some-clause-marks
returns-in_ok-marks-in-Some-clause-marks g c =
    let walked = c.in_ok-marks-in-Some.ensures.marks in
    walk_marks (graph_of (valued g.M.AsMachine.value (g.M.AsMachine.machine c.args.fst.now))) c.in-Some.start walked.0 c.in_ok-marks-in-Some.marks.items (sym c.in-Some.ensures.value) walked.1 walked.2
