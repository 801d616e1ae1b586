use Rattle.std.proofs.Common.{◌≡◌, map, take}
use Rattle.fst_machine.specs.Machine.{valued_arc}
use Rattle.fst_distance.specs.Totals.{scaled_arc}
use Rattle.fst_distance.proofs.totalling.put_scaled.Given as goal

abbrev pub invariant-loop-arc : goal.invariant-loop-arc
invariant-loop-arc g l = map (valued_arc g.W.Weight.wide_value) l.out.items ≡ map (λ a. scaled_arc g.W.Weight.KIND (g.W.Weight.wide_value l.factor) (valued_arc g.W.Weight.wide_value a)) (take l.arc-index l.arcs)
