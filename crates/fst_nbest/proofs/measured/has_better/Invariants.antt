use Rattle.std.proofs.Common.{◌≡◌, ◌<◌, ℕ, Some, slice_get}
use Rattle.fst_semiring.specs.Cost.{Cost}
use Rattle.fst_semiring.specs.Semiring.{IsCost}
use Rattle.fst_machine.specs.Machine.{Arc, valued}
use Rattle.fst_machine.specs.Graph.{graph_of}
use Rattle.fst_nbest.proofs.measured.has_better.Given as goal

abbrev pub invariant-loop-state : goal.invariant-loop-state
invariant-loop-state g l = (q k : ℕ) (a : Arc Cost ℕ) → q < l.state → slice_get ((graph_of (valued g.M.AsMachine.value (g.M.AsMachine.machine l.fst))).arcs q) k ≡ Some a → IsCost g.W.Weight.KIND a.weight
