use Rattle.std.proofs.Common.{◌≡◌, map, take}
use Rattle.std.specs.List.{All}
use Rattle.fst_semiring.specs.Semiring.{IsCost, Within}
use Rattle.fst_machine.specs.Machine.{valued_arc}
use Rattle.fst_distance.specs.Pushing.{pushed_by}
use Rattle.fst_distance.specs.Values.{most_pushed, value_in}
use Rattle.fst_distance.proofs.pushing.put_pushed.Given as goal

abbrev pub invariant-loop-arc : goal.invariant-loop-arc
invariant-loop-arc g l = record {
  arcs : map (valued_arc g.W.Weight.wide_value) l.out.items ≡ map (λ a. pushed_by g.W.Weight.KIND (value_in g.W.Weight.wide_value l.distances) (g.W.Weight.wide_value l.own) (valued_arc g.W.Weight.value a)) (take l.arc-index l.arcs);
  good : All (λ a. IsCost g.W.Weight.KIND (g.W.Weight.wide_value a.weight) × Within most_pushed (g.W.Weight.wide_value a.weight)) l.out.items;
}
