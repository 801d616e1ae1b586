use Rattle.fst_machine.proofs.ArcsChanged.{IsChanging}
use Rattle.fst_machine.proofs.fst.change.change_parts.Given as goal

abbrev pub invariant-loop-slot : goal.invariant-loop-slot
invariant-loop-slot g l = IsChanging (g.C.ArcsChange.changes l.change) l.slots l.fn.store l.store l.slot-index
