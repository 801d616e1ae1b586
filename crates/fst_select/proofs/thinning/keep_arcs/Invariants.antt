use Rattle.std.proofs.Common.{◌≡◌, filter, take}
use Rattle.fst_distance.specs.Values.{value_in}
use Rattle.fst_select.specs.Thinned.{arc_passes}
use Rattle.fst_select.proofs.thinning.keep_arcs.Given as goal

abbrev pub invariant-loop-arc : goal.invariant-loop-arc
invariant-loop-arc g l = l.kept.items ≡ filter (arc_passes g.W.Weight.value g.W.Weight.KIND (g.W.Weight.wide_value l.bound) (value_in g.W.Weight.wide_value l.to_finals) (g.W.Weight.wide_value l.own)) (take l.arc-index l.arcs)
