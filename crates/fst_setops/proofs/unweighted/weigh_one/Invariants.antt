use Rattle.std.proofs.Common.{◌≡◌, take}
use Rattle.std.specs.List.{All}
use Rattle.fst_semiring.specs.Semiring.{one_of}
use Rattle.fst_setops.proofs.unweighted.weigh_one.Given as goal

abbrev pub invariant-loop-arc : goal.invariant-loop-arc
invariant-loop-arc g l = All (λ a. g.W.Weight.value a.weight ≡ one_of g.W.Weight.KIND) (take l.arc-index l.arcs)
