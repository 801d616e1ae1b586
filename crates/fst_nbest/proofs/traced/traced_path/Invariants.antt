use Rattle.std.proofs.Common.{◌<◌, length}
use Rattle.fst_machine.specs.Machine.{valued}
use Rattle.fst_machine.specs.Graph.{graph_of}
use Rattle.fst_machine.specs.Steps.{written}
use Rattle.fst_nbest.proofs.TracedWords.{IsTracing}
use Rattle.fst_nbest.proofs.traced.traced_path.Given as goal

abbrev pub invariant-loop-k : goal.invariant-loop-k
invariant-loop-k g l = record {
  tracing : IsTracing (graph_of (valued g.M.AsMachine.value (g.M.AsMachine.machine l.fst))) l.start l.word l.k (written l.path) l.state;
  low : l.state < length (g.M.AsMachine.machine l.fst).states;
}
