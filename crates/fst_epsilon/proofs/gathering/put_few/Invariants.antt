use Rattle.std.proofs.Common.{◌≡◌, All, map, take}
use Rattle.fst_semiring.specs.Semiring.{InRange}
use Rattle.fst_machine.specs.Machine.{valued_arc}
use Rattle.fst_epsilon.specs.Construction.{merged, spoken}
use Rattle.fst_epsilon.specs.Merging.{AreMarked}
use Rattle.fst_epsilon.proofs.gathering.put_few.Given as goal

abbrev pub invariant-loop-arc : goal.invariant-loop-arc
invariant-loop-arc g l =
    let value = g.W.Weight.value in
    record {
      distance : l.out.distance ≡ l.fn.distance;
      marked : AreMarked l.out.spots l.out.arcs.items;
      range : All (λ a. InRange (value a.weight)) l.out.arcs.items;
      arcs : map (valued_arc value) l.out.arcs.items ≡ merged (map (valued_arc value) l.fn.out.arcs.items) (spoken g.W.Weight.KIND (value l.fn.distance) (take l.arc-index (map (valued_arc value) l.arcs)));
    }
