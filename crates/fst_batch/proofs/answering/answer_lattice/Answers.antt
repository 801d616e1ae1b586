use Rattle.std.proofs.Common.{map}
use Rattle.std.proofs.lemmas.Result.{IfOk-weaker}
use Rattle.fst_machine.specs.Graph.{graph_of}
use Rattle.fst_machine.specs.Machine.{valued}
use Rattle.fst_machine.specs.Steps.{written}
use Rattle.fst_delayed.specs.Graphs.{delayed_graph}
use Rattle.fst_nbest.specs.Chains.{chain_of}
use Rattle.fst_batch.specs.Building.{AnswersWhole}
use Rattle.fst_batch.specs.ToldChains.{Tells}
use Rattle.fst_batch.proofs.Saying.{first_steps, whole_cycle, whole_told}
use Rattle.fst_batch.proofs.Settling.{many_answer}
use Rattle.fst_batch.proofs.answering.answer_lattice.Goals as goal

pub returns-in_default : goal.returns-in_default
returns-in_default g c =
    let many = rw c.in_default.is at c.in_ok-fst.ensures in
    λ limit clear reached. many_answer g.W.Weight.KIND g.W.Weight.value (delayed_graph g.W.Weight.KIND g.W.Weight.value (g.D.Composed.machines c.args.delayed.now)) c.args.n limit c.args.line.now clear c.args.points.now reached many

pub returns-in-Err-ImprovingCycle : goal.returns-in-Err-ImprovingCycle
returns-in-Err-ImprovingCycle g c =
    let value = g.W.Weight.value in
    let made = rw c.in-Some.is at c.in_ok-fst.ensures in
    whole_cycle g.W.Weight.KIND value (g.D.Composed.machines c.args.delayed.now) c.args.n c.args.line.now c.args.points.now c.requires.whole.start c.requires.whole.listed (valued g.W.Weight.wide_value c.in-Some.fst) made c.in-Err-ImprovingCycle.field-0-0 (rw c.in-Err-ImprovingCycle.field-0-is at c.in-Err-ImprovingCycle.ensures.cycle)

pub list_paths-requires-clause-steps : goal.list_paths-requires-clause-steps
list_paths-requires-clause-steps g c = first_steps g.W.Weight.KIND (graph_of (valued g.W.Weight.wide_value c.in-Some.fst)) c.args.n (map written c.in-Ok.paths) c.in-Ok.ensures.first

pub returns-in-Ok : goal.returns-in-Ok
returns-in-Ok g c =
    let kind = g.W.Weight.KIND in
    let value = g.W.Weight.value in
    let m = valued g.W.Weight.wide_value c.in-Some.fst in
    let made = rw c.in-Some.is at c.in_ok-fst.ensures in
    IfOk-weaker c.list_paths.result (Tells kind value (map (chain_of (graph_of m)) (map written c.in-Ok.paths))) (AnswersWhole kind value (g.D.Composed.machines c.args.delayed.now) c.args.n c.args.line.now c.args.points.now)
    (λ a tells. whole_told kind value (g.D.Composed.machines c.args.delayed.now) c.args.n c.args.line.now c.args.points.now c.requires.whole.start c.requires.whole.listed m made (map written c.in-Ok.paths) c.in-Ok.ensures.first c.in-Ok.ensures.none a tells)
    c.list_paths.ensures
