use Rattle.std.proofs.Common.{ℕ, ◌<◌}
use Rattle.fst_machine.specs.Graph.{graph_of}
use Rattle.fst_machine.specs.Machine.{valued}
use Rattle.fst_trim.specs.Weighed.{IsWeighedAt}
use Rattle.fst_trim.proofs.weighing.weigh.Given as goal

abbrev pub invariant-loop-state : goal.invariant-loop-state
invariant-loop-state g l = (p : ℕ) → p < l.state → IsWeighedAt g.W.Weight.KIND (graph_of (valued g.W.Weight.value l.fst)) p
