use Rattle.std.proofs.Common.{◌+◌, length, map}
use Rattle.fst_machine.specs.Machine.{valued}
use Rattle.fst_machine.specs.Graph.{graph_of}
use Rattle.fst_plain.specs.PlainPaths.{AllGood, ArePartsBelow, part_of}
use Rattle.fst_plain.proofs.listing.parts_within.Given as goal

abbrev pub invariant-loop-round : goal.invariant-loop-round
invariant-loop-round g l = record {
  value : ArePartsBelow g.W.Weight.KIND (graph_of (valued g.W.Weight.value l.fst)) l.start (l._round + 1) (map part_of l.parts.items);
  good : AllGood (length l.fst.states) (l._round + 1) l.parts.items;
}
