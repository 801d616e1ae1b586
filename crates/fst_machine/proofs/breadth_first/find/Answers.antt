use Rattle.std.proofs.Common.{true, set, sym, subst}
use Rattle.fst_machine.specs.Marks.{Marks}
use Rattle.fst_machine.proofs.Walking.{Marks-push}
use Rattle.fst_machine.proofs.breadth_first.find.Goals as goal

pub returns-clause-marks : goal.returns-clause-marks
returns-clause-marks c = subst (λ ns. Marks (set c.args.seen.now.items c.args.next true) ns) (sym c.in_ok-push.ensures.items) (Marks-push c.args.seen.now.items c.args.names.now.items c.args.next c.requires.within c.requires.marks)
