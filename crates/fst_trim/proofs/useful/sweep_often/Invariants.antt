use Rattle.std.proofs.Common.{◌≡◌, length}
use Rattle.fst_machine.specs.Machine.{valued}
use Rattle.fst_machine.specs.Graph.{graph_of}
use Rattle.fst_machine.specs.Marks.{Marks}
use Rattle.fst_trim.specs.Back.{IsWalkingBack}
use Rattle.fst_trim.proofs.useful.sweep_often.Given as goal

abbrev pub invariant-loop : goal.invariant-loop
invariant-loop g l = record {
  walking : IsWalkingBack (graph_of (valued g.W.Weight.value l.fst)) l.names.items 0;
  marks : Marks l.seen.items l.names.items;
  size : length l.seen.items ≡ length l.fst.states;
}
