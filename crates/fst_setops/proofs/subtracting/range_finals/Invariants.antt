use Rattle.std.proofs.Common.{ℕ, ◌<◌}
use Rattle.fst_semiring.specs.Semiring.{InRange}
use Rattle.fst_machine.specs.Graph.{graph_of}
use Rattle.fst_machine.specs.Machine.{valued}
use Rattle.fst_setops.proofs.subtracting.range_finals.Given as goal

abbrev pub invariant-loop-state : goal.invariant-loop-state
invariant-loop-state g l = (p : ℕ) → p < l.state → InRange ((graph_of (valued g.W.Weight.value l.fst)).final p)
