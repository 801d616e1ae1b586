use Rattle.std.proofs.Common.{◌≤◌, ◌≡◌, length}
use Rattle.fst_machine.specs.Machine.{valued}
use Rattle.fst_machine.specs.Graph.{graph_of}
use Rattle.fst_machine.specs.Marks.{Marks}
use Rattle.fst_trim.specs.Back.{IsWalkingBack}
use Rattle.fst_trim.proofs.Backward.{IsClosedAbove}
use Rattle.fst_trim.proofs.useful.sweep.Given as goal

abbrev pub invariant-loop-left : goal.invariant-loop-left
invariant-loop-left g l = record {
  walking : IsWalkingBack (graph_of (valued g.W.Weight.value l.fst)) l.names.items 0;
  marks : Marks l.seen.items l.names.items;
  size : length l.seen.items ≡ length l.fst.states;
  within : l.left ≤ length l.fst.states;
  grown : length l.fn.names.items ≤ length l.names.items;
  still : length l.names.items ≤ length l.fn.names.items → IsClosedAbove (graph_of (valued g.W.Weight.value l.fst)) l.left l.names.items;
}

abbrev pub decreases-loop-left : goal.decreases-loop-left
decreases-loop-left g l = l.left
