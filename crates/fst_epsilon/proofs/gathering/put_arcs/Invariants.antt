use Rattle.std.proofs.Common.{◌≡◌, map, take}
use Rattle.fst_machine.specs.Machine.{valued_arc}
use Rattle.fst_epsilon.specs.Construction.{merged, spoken}
use Rattle.fst_epsilon.specs.Merging.{ArePaired}
use Rattle.fst_epsilon.proofs.gathering.put_arcs.Given as goal

abbrev pub invariant-loop-arc : goal.invariant-loop-arc
invariant-loop-arc g l =
    let wide = g.W.Weight.wide_value in
    record {
      paired : ArePaired l.out.keys l.out.arcs.items;
      arcs : map (valued_arc wide) l.out.arcs.items ≡ merged (map (valued_arc wide) l.fn.out.arcs.items) (spoken g.W.Weight.KIND (wide l.distance) (take l.arc-index (map (valued_arc g.W.Weight.value) l.arcs)));
    }
