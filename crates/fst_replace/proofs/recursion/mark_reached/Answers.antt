use Rattle.std.proofs.Common.{arith}
use Rattle.fst_replace.specs.Walks.{at_place}
use Rattle.fst_replace.proofs.Marking.{reached_marks}
use Rattle.fst_replace.proofs.recursion.mark_reached.Goals as goal

pub returns-clause-marks : goal.returns-clause-marks
returns-clause-marks c = reached_marks (at_place c.args.calls.now) c.in_ok-seen.seen.items 0 (omega (arith, c.in_ok-seen.ensures.size, c.requires.root)) c.in_ok-seen.ensures.marks
