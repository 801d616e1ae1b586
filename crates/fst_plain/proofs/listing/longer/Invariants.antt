use Rattle.std.proofs.Common.{◌≡◌, ◌+◌, ◌∷◌, ℕ, length, map, take}
use Rattle.fst_machine.specs.Machine.{valued}
use Rattle.fst_machine.specs.Graph.{graph_of}
use Rattle.fst_plain.specs.PlainPaths.{AllGood, extensions, no_arcs, part_of}
use Rattle.fst_plain.proofs.listing.longer.Given as goal

abbrev pub invariant-loop-part : goal.invariant-loop-part
invariant-loop-part g l = record {
  value : map part_of l.more.items ≡ no_arcs g.W.Weight.KIND l.start ∷ extensions g.W.Weight.KIND (graph_of (valued g.W.Weight.value l.fst)) (map part_of (take l.part-index l.parts));
  good : (n : ℕ) → AllGood (length l.fst.states) n l.parts → AllGood (length l.fst.states) (n + 1) l.more.items;
}
