use Rattle.std.proofs.Common.{◌+◌}
use Rattle.fst_machine.specs.Machine.{valued}
use Rattle.fst_machine.specs.Graph.{graph_of}
use Rattle.fst_nbest.specs.PathWords.{path_words}
use Rattle.fst_nbest.specs.Ready.{count_in, dist_in}
use Rattle.fst_nbest.specs.Turns.{AreTurnsBelow}
use Rattle.fst_nbest.proofs.path_system.PathSystem.put_steps.Given as goal

abbrev pub invariant-loop-place : goal.invariant-loop-place
invariant-loop-place g l =
    let wide = g.W.Weight.wide_value in
    AreTurnsBelow g.W.Weight.KIND (path_words (graph_of (valued g.M.AsMachine.value l.self.machine)) (dist_in wide l.self.dist)) (dist_in wide l.self.dist) (count_in l.self.count) wide l.state (l.place + 1) l.turns.items
