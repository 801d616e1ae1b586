use Rattle.std.proofs.Common.{◌≡◌, ◌-◌, length}
use Rattle.fst_machine.specs.Marks.{Marks}
use Rattle.fst_replace.specs.Walks.{IsMarking, at_place}
use Rattle.fst_replace.proofs.recursion.mark_called.Given as goal

abbrev pub invariant-loop-taken : goal.invariant-loop-taken
invariant-loop-taken l = record {
  marking : IsMarking (at_place l.calls) l.rule l.names.items l.taken;
  marks : Marks l.seen.items l.names.items;
  size : length l.seen.items ≡ length l.calls;
}

abbrev pub decreases-loop-taken : goal.decreases-loop-taken
decreases-loop-taken l = length l.calls - l.taken
