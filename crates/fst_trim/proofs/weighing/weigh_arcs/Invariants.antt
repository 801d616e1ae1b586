use Rattle.std.proofs.Common.{take}
use Rattle.std.specs.List.{All}
use Rattle.fst_semiring.specs.Semiring.{InRange, IsCost}
use Rattle.fst_trim.proofs.weighing.weigh_arcs.Given as goal

abbrev pub invariant-loop-arc : goal.invariant-loop-arc
invariant-loop-arc g l = record {
  kind : All (λ a. IsCost g.W.Weight.KIND (g.W.Weight.value a.weight)) (take l.arc-index l.arcs);
  range : All (λ a. InRange (g.W.Weight.value a.weight)) (take l.arc-index l.arcs);
}
