use Rattle.std.proofs.Common.{◌+◌, length, arith}
use Rattle.fst_machine.specs.Machine.{valued}
use Rattle.fst_machine.specs.Graph.{graph_of}
use Rattle.fst_nbest.specs.PathWords.{path_words}
use Rattle.fst_nbest.specs.Ready.{count_in, dist_in}
use Rattle.fst_nbest.proofs.TurnLists.{no_move, turns_begin, turns_done, turns_next}
use Rattle.fst_nbest.proofs.path_system.PathSystemSystemWide.moves.Goals as goal

pub put_steps-requires-clause-first : goal.put_steps-requires-clause-first
put_steps-requires-clause-first g c =
    let wide = g.W.Weight.wide_value in
    let s = c.args.self.now in
    let words = path_words (graph_of (valued g.M.AsMachine.value s.machine)) (dist_in wide s.dist) in
    turns_next g.W.Weight.KIND words (dist_in wide s.dist) (count_in s.count) wide c.args.name 0 c.new-turns.result.items c.put_stop.new.turns.items
    (turns_begin g.W.Weight.KIND words (dist_in wide s.dist) (count_in s.count) wide c.args.name c.new-turns.result.items c.new-turns.ensures.items) c.in_ok-put_stop.ensures

pub returns : goal.returns
returns g c =
    let kind = g.W.Weight.KIND in
    let wide = g.W.Weight.wide_value in
    let s = c.args.self.now in
    let graph = graph_of (valued g.M.AsMachine.value s.machine) in
    let words = path_words graph (dist_in wide s.dist) in
    c.in_ok-moves.ensures kind words (dist_in wide s.dist) (count_in s.count) c.args.name
    (turns_done kind words (dist_in wide s.dist) (count_in s.count) wide c.args.name (1 + length (graph.arcs c.args.name)) c.put_steps.new.turns.items c.in_ok-put_steps.ensures
    (λ k past. no_move kind graph (dist_in wide s.dist) (count_in s.count) c.args.name k (omega (arith, past))))
