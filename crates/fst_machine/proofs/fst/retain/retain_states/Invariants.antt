use Rattle.fst_machine.proofs.Retaining.{IsRetaining}
use Rattle.fst_machine.proofs.fst.retain.retain_states.Given as goal

abbrev pub invariant-loop-state : goal.invariant-loop-state
invariant-loop-state g l = IsRetaining l.marks l.numbers l.slots l.fn.store l.store l.state l.end l.kept.items
