use Rattle.std.proofs.Common.{map}
use Rattle.fst_machine.specs.Machine.{valued_arc}
use Rattle.fst_trim.proofs.Sought.{IsSought}
use Rattle.fst_trim.proofs.before.old_place.Given as goal

abbrev pub invariant-loop-at : goal.invariant-loop-at
invariant-loop-at g l = IsSought l.kept (map (valued_arc g.W.Weight.value) l.arcs) l.place l.at l.left
