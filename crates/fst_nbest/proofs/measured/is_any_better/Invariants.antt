use Rattle.std.proofs.Common.{◌≡◌, ◌<◌, ℕ, Some, slice_get}
use Rattle.fst_semiring.specs.Semiring.{IsCost}
use Rattle.fst_machine.specs.Machine.{Arc}
use Rattle.fst_nbest.proofs.measured.is_any_better.Given as goal

abbrev pub invariant-loop-arc : goal.invariant-loop-arc
invariant-loop-arc g l = (k : ℕ) (a : Arc g.row.V.Denot ℕ) → k < l.arc-index → slice_get l.arcs k ≡ Some a → IsCost g.W.Weight.KIND (g.M.AsMachine.value a.weight)
