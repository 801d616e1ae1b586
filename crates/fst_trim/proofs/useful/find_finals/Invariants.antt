use Rattle.std.proofs.Common.{◌≡◌, length}
use Rattle.fst_machine.specs.Machine.{valued}
use Rattle.fst_machine.specs.Graph.{graph_of}
use Rattle.fst_machine.specs.Marks.{Marks}
use Rattle.fst_trim.specs.Finals.{FoundFinals}
use Rattle.fst_trim.proofs.useful.find_finals.Given as goal

abbrev pub invariant-loop-state : goal.invariant-loop-state
invariant-loop-state g l = record {
  found : FoundFinals (graph_of (valued g.W.Weight.value l.fst)) l.state l.names.items;
  marks : Marks l.seen.items l.names.items;
  size : length l.seen.items ≡ length l.fst.states;
}
