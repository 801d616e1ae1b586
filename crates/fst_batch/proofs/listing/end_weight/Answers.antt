use Rattle.std.proofs.Common.{◌-◌, ap, sym, subst, ◌∙◌, arith}
use Rattle.fst_semiring.specs.Cost.{Cost}
use Rattle.fst_semiring.specs.Semiring.{Within}
use Rattle.fst_machine.specs.Graph.{graph_of}
use Rattle.fst_machine.specs.Machine.{Arc, valued, valued_arc}
use Rattle.fst_nbest.proofs.Building.{valued_final}
use Rattle.fst_nbest.proofs.PathChains.{last_is, step_there}
use Rattle.fst_batch.proofs.Filled.{small_last}
use Rattle.fst_batch.proofs.Weighed.{end_none, starts_somewhere}
use Rattle.fst_batch.proofs.listing.end_weight.Goals as goal

pub returns-then-len-eq0-clause-value : goal.returns-then-len-eq0-clause-value
returns-then-len-eq0-clause-value g c =
    let value = g.W.Weight.wide_value in
    end_none (graph_of (valued value c.args.fst.now)) c.args.path.now c.args.start (value c.final_weight.result) (sym c.len-len.ensures ∙ c.if-len-eq0.true) c.requires.start
    (valued_final value c.args.fst.now c.args.start c.final_weight.result c.final_weight.ensures)

pub returns-then-len-eq0-clause-range : goal.returns-then-len-eq0-clause-range
returns-then-len-eq0-clause-range g c =
    let value = g.W.Weight.wide_value in
    subst (Within 2000000000000000000) (sym (valued_final value c.args.fst.now c.args.start c.final_weight.result c.final_weight.ensures)) (small_last (valued value c.args.fst.now) c.requires.small c.args.start)

pub step_arc-end-requires : goal.step_arc-end-requires
step_arc-end-requires g c = step_there (graph_of (valued g.W.Weight.wide_value c.args.fst.now)) c.args.path.now _ c.item.result.now c.requires.steps c.item.ensures

pub returns-clause-value : goal.returns-clause-value
returns-clause-value g c =
    let value = g.W.Weight.wide_value in
    let graph = graph_of (valued value c.args.fst.now) in
    last_is graph c.args.path.now (c.len-len.result - 1) c.item.result.now (value c.final_weight-2.result) (starts_somewhere graph.start c.args.start c.requires.start) c.item.ensures (omega (arith, c.len-len.ensures, c.if-len-eq0.false))
    (valued_final value c.args.fst.now c.end.inside.next c.final_weight-2.result c.final_weight-2.ensures ∙ ap (λ (a : Arc Cost _). graph.final a.next) (ap (valued_arc value) c.end.view_is ∙ c.step_arc-end.ensures.value))

pub returns-clause-range : goal.returns-clause-range
returns-clause-range g c =
    let value = g.W.Weight.wide_value in
    subst (Within 2000000000000000000) (sym (valued_final value c.args.fst.now c.end.inside.next c.final_weight-2.result c.final_weight-2.ensures)) (small_last (valued value c.args.fst.now) c.requires.small c.end.inside.next)
