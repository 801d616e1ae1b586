use Rattle.std.proofs.Common.{length}
use Rattle.fst_machine.specs.Machine.{valued}
use Rattle.fst_machine.specs.Graph.{graph_of}
use Rattle.fst_trim.proofs.Looking.{final_within}
use Rattle.fst_trim.proofs.Backward.{back_begins, closed_marks}
use Rattle.fst_trim.proofs.useful.coaccessible.Goals as goal

pub sweep_often-requires-clause-walking : goal.sweep_often-requires-clause-walking
sweep_often-requires-clause-walking g c = back_begins (graph_of (valued g.W.Weight.value c.args.fst.now)) (length c.args.fst.now.states) c.find_finals.new.names.items c.in_ok-find_finals.ensures.found (final_within g.W.Weight.value c.args.fst.now)

pub returns-then-branch-clause-marks : goal.returns-then-branch-clause-marks
returns-then-branch-clause-marks g c =
    let s = c.in_ok-sweep_often.ensures in
    closed_marks (graph_of (valued g.W.Weight.value c.args.fst.now)) c.sweep_often.new.names.items c.sweep_often.new.seen.items s.walking (s.all c.if-branch.true) s.marks
