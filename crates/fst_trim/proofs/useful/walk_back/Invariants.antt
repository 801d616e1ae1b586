use Rattle.std.proofs.Common.{◌≡◌, ◌-◌, length}
use Rattle.fst_machine.specs.Machine.{valued}
use Rattle.fst_machine.specs.Graph.{graph_of}
use Rattle.fst_machine.specs.Marks.{Marks}
use Rattle.fst_trim.specs.Back.{IsWalkingBack}
use Rattle.fst_trim.proofs.useful.walk_back.Given as goal

abbrev pub invariant-loop-taken : goal.invariant-loop-taken
invariant-loop-taken g l = record {
  walking : IsWalkingBack (graph_of (valued g.W.Weight.value l.fst)) l.names.items l.taken;
  marks : Marks l.seen.items l.names.items;
  size : length l.seen.items ≡ length l.fst.states;
}

abbrev pub decreases-loop-taken : goal.decreases-loop-taken
decreases-loop-taken g l = length l.fst.states - l.taken
