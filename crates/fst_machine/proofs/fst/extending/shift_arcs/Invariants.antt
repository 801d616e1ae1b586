use Rattle.std.proofs.Common.{◌≡◌, ◌++◌, map, take, drop}
use Rattle.fst_machine.specs.Extending.{wrapped}
use Rattle.fst_machine.proofs.fst.extending.shift_arcs.Given as goal

abbrev pub invariant-loop-place : goal.invariant-loop-place
invariant-loop-place g l = l.store ≡ map (wrapped l.by) (take l.place l.fn.store) ++ drop l.place l.fn.store
