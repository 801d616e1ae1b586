use Rattle.std.proofs.Common.{◌≡◌, ◌++◌, map, take, drop}
use Rattle.fst_machine.specs.Forgetting.{moved_back}
use Rattle.fst_machine.proofs.fst.leaving.move_back.Given as goal

abbrev pub invariant-loop-place : goal.invariant-loop-place
invariant-loop-place g l = l.slots.items ≡ map (moved_back l.by) (take l.place l.fn.slots.items) ++ drop l.place l.fn.slots.items
