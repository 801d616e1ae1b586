use Rattle.std.proofs.Common.{ℕ, ◌-◌, ap, sym, ◌∙◌, arith}
use Rattle.fst_machine.specs.Machine.{Arc, valued, valued_arc}
use Rattle.fst_machine.specs.Graph.{graph_of}
use Rattle.fst_machine.specs.Steps.{written}
use Rattle.fst_nbest.proofs.Building.{valued_final}
use Rattle.fst_nbest.proofs.PathChains.{last_is, last_none, last_start, step_there, successful_steps, walk_starts}
use Rattle.fst_nbest.proofs.path_chains.end_weight.Goals as goal

pub step_arc-end-requires : goal.step_arc-end-requires
step_arc-end-requires g c =
    let graph = graph_of (valued g.W.Weight.value c.args.fst.now) in
    step_there graph c.args.path.now _ c.item.result.now (successful_steps graph (written c.args.path.now) c.requires) c.item.ensures

pub returns-then-len-gt0 : goal.returns-then-len-gt0
returns-then-len-gt0 g c =
    let value = g.W.Weight.value in
    let graph = graph_of (valued value c.args.fst.now) in
    last_is graph c.args.path.now (c.len-len.result - 1) c.item.result.now (value c.final_weight.result) (walk_starts graph (written c.args.path.now) c.requires) c.item.ensures (omega arith)
    (valued_final value c.args.fst.now c.end.inside.next c.final_weight.result c.final_weight.ensures ∙ ap (λ (a : Arc _ ℕ). graph.final a.next) (ap (valued_arc value) c.end.view_is ∙ c.step_arc-end.ensures.value))

pub returns-in-Some : goal.returns-in-Some
returns-in-Some g c =
    let value = g.W.Weight.value in
    last_start (graph_of (valued value c.args.fst.now)) c.args.path.now c.in-Some.start (value c.final_weight-in-Some.result) (omega arith) (sym c.start.ensures.value ∙ c.in-Some.is)
    (valued_final value c.args.fst.now c.in-Some.start c.final_weight-in-Some.result c.final_weight-in-Some.ensures)

pub returns-in-None : goal.returns-in-None
returns-in-None g c =
    let value = g.W.Weight.value in
    last_none (graph_of (valued value c.args.fst.now)) c.args.path.now (value c.zero.result) (sym c.start.ensures.value ∙ c.in-None.is) c.zero.ensures
