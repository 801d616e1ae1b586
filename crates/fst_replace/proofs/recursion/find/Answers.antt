use Rattle.std.proofs.Common.{true, set, sym, subst}
use Rattle.fst_machine.specs.Marks.{Marks}
use Rattle.fst_machine.proofs.Walking.{Marks-push}
use Rattle.fst_replace.proofs.recursion.find.Goals as goal

pub returns-clause-marks : goal.returns-clause-marks
returns-clause-marks c = subst (λ ns. Marks (set c.args.seen.now.items c.args.place true) ns) (sym c.in_ok-push.ensures.items) (Marks-push c.args.seen.now.items c.args.names.now.items c.args.place c.requires.within c.requires.marks)
