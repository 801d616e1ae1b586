use Rattle.std.proofs.Common.{◌≡◌, [], All, map, take}
use Rattle.fst_semiring.specs.Semiring.{InRange}
use Rattle.fst_machine.specs.Graph.{graph_of}
use Rattle.fst_machine.specs.Machine.{valued, valued_arc}
use Rattle.fst_epsilon.specs.Construction.{best_final, collected, merged}
use Rattle.fst_epsilon.specs.Gathering.{pairs_of}
use Rattle.fst_epsilon.specs.Merging.{AreMarked}
use Rattle.fst_epsilon.proofs.gathering.gather_few.Given as goal

abbrev pub invariant-loop-item : goal.invariant-loop-item
invariant-loop-item g l =
    let value = g.W.Weight.value in
    let graph = graph_of (valued value l.fst) in
    record {
      marked : AreMarked l.out.spots l.out.arcs.items;
      last : InRange (value l.last);
      range : All (λ a. InRange (value a.weight)) l.out.arcs.items;
      arcs : map (valued_arc value) l.out.arcs.items ≡ merged [] (collected g.W.Weight.KIND graph (take l.item-index (pairs_of value l.closure)));
      ends : value l.last ≡ best_final g.W.Weight.KIND graph (take l.item-index (pairs_of value l.closure));
    }
