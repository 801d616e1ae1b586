use Rattle.std.proofs.Common.{◌≡◌, [], map, take}
use Rattle.fst_machine.specs.Graph.{graph_of}
use Rattle.fst_machine.specs.Machine.{valued, valued_arc}
use Rattle.fst_epsilon.specs.Construction.{best_final, collected, merged}
use Rattle.fst_epsilon.specs.Gathering.{pairs_of}
use Rattle.fst_epsilon.specs.Merging.{ArePaired}
use Rattle.fst_epsilon.proofs.gathering.gather.Given as goal

abbrev pub invariant-loop-item : goal.invariant-loop-item
invariant-loop-item g l =
    let wide = g.W.Weight.wide_value in
    let graph = graph_of (valued g.W.Weight.value l.fst) in
    record {
      paired : ArePaired l.out.keys l.out.arcs.items;
      arcs : map (valued_arc wide) l.out.arcs.items ≡ merged [] (collected g.W.Weight.KIND graph (take l.item-index (pairs_of wide l.closure)));
      ends : wide l.last ≡ best_final g.W.Weight.KIND graph (take l.item-index (pairs_of wide l.closure));
    }
