use Rattle.std.proofs.Common.{◌≡◌, [], map, take}
use Rattle.fst_machine.specs.Machine.{valued}
use Rattle.fst_machine.specs.Graph.{graph_of}
use Rattle.fst_plain.specs.Collected.{collected}
use Rattle.fst_plain.specs.PlainPaths.{part_of, path_of}
use Rattle.fst_plain.proofs.listing.collect.Given as goal

abbrev pub invariant-loop-part : goal.invariant-loop-part
invariant-loop-part g l = map path_of l.found.items ≡ collected g.W.Weight.KIND (graph_of (valued g.W.Weight.value l.fst)) (map part_of (take l.part-index l.parts)) []
