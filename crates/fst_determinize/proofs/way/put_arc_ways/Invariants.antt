use Rattle.std.proofs.Common.{◌≡◌, ◌++◌, map, take}
use Rattle.fst_machine.specs.Machine.{valued_arc}
use Rattle.fst_determinize.specs.Kept.{member_as, ways_as}
use Rattle.fst_determinize.specs.Ways.{way_by}
use Rattle.fst_determinize.proofs.way.put_arc_ways.Given as goal

abbrev pub invariant-loop-arc : goal.invariant-loop-arc
invariant-loop-arc g l = ways_as g.W.Weight.wide_value l.out.items ≡ ways_as g.W.Weight.wide_value l.fn.out.items ++ map (way_by g.W.Weight.KIND (member_as g.R.Kept.value l.member)) (map (valued_arc g.W.Weight.value) (take l.arc-index l.arcs))
