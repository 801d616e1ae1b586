use Rattle.std.proofs.Common.{◌≡◌, ◌++◌, map, take}
use Rattle.fst_machine.specs.Machine.{valued_arc}
use Rattle.fst_walk.specs.Names.{key_arc}
use Rattle.fst_determinize.specs.Kept.{member_as}
use Rattle.fst_determinize.specs.Ways.{single_arc, way_by}
use Rattle.fst_determinize.proofs.single.put_single_arcs.Given as goal

abbrev pub invariant-loop-arc : goal.invariant-loop-arc
invariant-loop-arc g l =
    map (key_arc g.W.Weight.wide_value) l.out.items
    ≡ map (key_arc g.W.Weight.wide_value) l.fn.out.items ++ map (single_arc g.W.Weight.KIND) (map (way_by g.W.Weight.KIND (member_as g.R.Kept.value l.member)) (map (valued_arc g.W.Weight.value) (take l.arc-index l.arcs)))
