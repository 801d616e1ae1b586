use Rattle.std.proofs.Common.{◌≤◌, All, take}
use Rattle.fst_machine.specs.Forgetting.{BeginsFrom}
use Rattle.fst_machine.proofs.fst.leaving.first_part.Given as goal

abbrev pub invariant-loop-slot : goal.invariant-loop-slot
invariant-loop-slot g l =
    record {
      low : All (BeginsFrom l.first) (take l.slot-index l.slots);
      few : l.first ≤ l.arcs;
    }
