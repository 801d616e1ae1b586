use Rattle.std.proofs.Common.{map, take}
use Rattle.fst_machine.specs.BreadthFirst.{Apart}
use Rattle.fst_machine.specs.Machine.{valued_arc}
use Rattle.fst_minimize.specs.Saying.{Extends, SaysArcs}
use Rattle.fst_minimize.proofs.describing.put_said.Given as goal

abbrev pub invariant-loop-arc : goal.invariant-loop-arc
invariant-loop-arc g l = record {
  says : SaysArcs l.keys (map (valued_arc g.W.Weight.wide_value) (take l.arc-index l.arcs)) l.said.items;
  apart : Apart l.keys;
  more : Extends l.initial.keys l.keys;
}
