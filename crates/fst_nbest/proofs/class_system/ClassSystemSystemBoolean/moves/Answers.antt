use Rattle.std.proofs.Common.{◌+◌, length, arith}
use Rattle.fst_semiring.specs.Cost.{Cost}
use Rattle.fst_semiring.specs.declared.arc_type.ArcType.TheVariants.{Boolean}
use Rattle.fst_machine.specs.Machine.{valued}
use Rattle.fst_machine.specs.Graph.{graph_of}
use Rattle.fst_nbest.specs.Classes.{class_words, is_counted, state_at, unit}
use Rattle.fst_nbest.specs.Counts.{count_of}
use Rattle.fst_nbest.proofs.ClassWords.{class_no_move}
use Rattle.fst_nbest.proofs.TurnLists.{turns_done}
use Rattle.fst_nbest.proofs.class_system.ClassSystemSystemBoolean.moves.Goals as goal

pub returns : goal.returns
returns g c =
    let s = c.args.self.now in
    let graph = graph_of (valued g.M.AsMachine.value s.machine) in
    let n = length s.machine.states in
    let words = class_words graph n s.total (is_counted s.counts) in
    c.in_ok-moves.ensures Boolean words (λ x. unit) (count_of s.counts) c.args.name
    (turns_done Boolean words (λ x. unit) (count_of s.counts) (λ (t : Cost). t) c.args.name (1 + length (graph.arcs (state_at n c.args.name))) c.put_steps.new.turns.items c.in_ok-put_steps.ensures
    (λ k past. class_no_move graph n s.total (is_counted s.counts) (count_of s.counts) c.args.name k (omega (arith, past))))
