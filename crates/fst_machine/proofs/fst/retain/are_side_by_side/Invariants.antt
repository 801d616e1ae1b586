use Rattle.std.proofs.Common.{drop}
use Rattle.fst_machine.specs.SideBySide.{Follow}
use Rattle.fst_machine.proofs.fst.retain.are_side_by_side.Given as goal

abbrev pub invariant-loop-slot : goal.invariant-loop-slot
invariant-loop-slot g l = Follow l.behind (drop l.slot-index l.slots) → Follow 0 l.slots
