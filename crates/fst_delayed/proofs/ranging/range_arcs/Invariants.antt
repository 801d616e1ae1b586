use Rattle.std.proofs.Common.{take}
use Rattle.std.specs.List.{All}
use Rattle.fst_semiring.specs.Semiring.{InRange}
use Rattle.fst_delayed.proofs.ranging.range_arcs.Given as goal

abbrev pub invariant-loop-arc : goal.invariant-loop-arc
invariant-loop-arc g l = All (λ a. InRange (g.W.Weight.value a.weight)) (take l.arc-index l.arcs)
