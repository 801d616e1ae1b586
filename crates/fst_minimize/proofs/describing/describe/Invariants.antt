use Rattle.std.proofs.Common.{ℕ, ◌<◌}
use Rattle.fst_machine.specs.BreadthFirst.{Apart}
use Rattle.fst_machine.specs.Graph.{graph_of}
use Rattle.fst_minimize.specs.Described.{IsDescribed, OfKind}
use Rattle.fst_minimize.proofs.describing.describe.Given as goal

abbrev pub invariant-loop-state : goal.invariant-loop-state
invariant-loop-state g l = record {
  described : IsDescribed (graph_of l.pushed) l.state l.describer;
  apart : Apart l.describer.keys;
  kind : (p : ℕ) → p < l.state → OfKind g.W.Weight.KIND (graph_of l.pushed) p;
}
