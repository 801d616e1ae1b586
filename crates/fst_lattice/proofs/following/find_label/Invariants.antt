use Rattle.std.proofs.Common.{◌≡◌, ◌≤◌, [], false, length, map, take}
use Rattle.fst_machine.specs.BreadthFirst.{Grows}
use Rattle.fst_machine.specs.Graph.{nexts}
use Rattle.fst_walk.specs.Names.{key_arc}
use Rattle.fst_lattice.specs.Lattice.{reading}
use Rattle.fst_lattice.specs.Walks.{label_arcs}
use Rattle.fst_lattice.proofs.following.find_label.Given as goal

abbrev pub invariant-loop-arc : goal.invariant-loop-arc
invariant-loop-arc g l = record {
  grown : Grows l.initial.points (nexts (label_arcs l.label l.position (map (key_arc g.W.Weight.wide_value) (take l.arc-index l.arcs)))) l.points;
  few : length l.points ≤ l.limit;
  silent : l.silent ≡ false → reading 0 (map (key_arc g.W.Weight.wide_value) (take l.arc-index l.arcs)) ≡ [];
}
