use Rattle.std.proofs.Common.{◌≡◌, ◌<◌, ◌+◌, ◌-◌, ℕ, suc, List, length, map, take, sym, ap, ◌∙◌, subst, arith}
use Rattle.std.proofs.lemmas.List.{take_all}
use Rattle.fst_semiring.specs.Cost.{Cost, plus}
use Rattle.fst_semiring.specs.Semiring.{times}
use Rattle.fst_machine.specs.Machine.{Arc, valued, valued_arc}
use Rattle.fst_machine.specs.Graph.{graph_of}
use Rattle.fst_machine.specs.Within.{arcs_weight, end_weight, weight_within}
use Rattle.fst_machine.proofs.Walking.{graph_arcs}
use Rattle.fst_plain.specs.Plain.{cost_of, Fits}
use Rattle.fst_plain.proofs.Bounds.{Fits-more, Fits-sum, times-Fits, plus-Fits}
use Rattle.fst_plain.proofs.Folds.{arcs_more}
use Rattle.fst_plain.proofs.pair.+weight.Goals as goal

pub weight_by-times_costs-requires : goal.weight_by-times_costs-requires
weight_by-times_costs-requires g t c = Fits-sum 1 (c.args.arcs + 1) (cost_of c.plain_cost.result) (cost_of c.weight_from-rest.result) (omega arith) c.plain_cost.ensures.fits c.weight_from-rest.ensures.fits

pub weight_by-returns-clause-fits : goal.weight_by-returns-clause-fits
weight_by-returns-clause-fits g t c = subst (λ z. Fits (c.args.arcs + 2) z) (sym c.times_costs.ensures) (Fits-more (1 + (c.args.arcs + 1)) (c.args.arcs + 2) (times c.KIND.result (cost_of c.plain_cost.result) (cost_of c.weight_from-rest.result)) (omega arith) (times-Fits c.KIND.result 1 (c.args.arcs + 1) (cost_of c.plain_cost.result) (cost_of c.weight_from-rest.result) c.plain_cost.ensures.fits c.weight_from-rest.ensures.fits))

pub weight_from-loop-arc-preserved : goal.weight_from-loop-arc-preserved
weight_from-loop-arc-preserved g t c =
    let kind = g.W.Weight.KIND in
    let value = g.W.Weight.value in
    let graph = graph_of (valued value c.args.fst.now) in
    let items = c.arcs-arc-items.result.now in
    let low : c.loop-arc.arc-index < length items = omega arith in
    let best : cost_of c.plus_costs-best.result ≡ plus (cost_of c.loop-arc.best) _ = c.plus_costs-best.ensures ∙ ap (plus (cost_of c.loop-arc.best)) c.weight_by.ensures.value in
    record {
      value = arcs_more kind (weight_within kind graph (c.args.arcs - 1)) (valued_arc value) c.args.input.now c.args.output.now items c.loop-arc.arc-index c.arc-item.result (end_weight (graph.final c.args.state) c.args.input.now c.args.output.now) (cost_of c.loop-arc.best) (cost_of c.plus_costs-best.result) low c.arc-item.is c.loop-arc.invariant.value best;
      fits = subst (λ z. Fits (c.args.arcs + 1) z) (sym c.plus_costs-best.ensures) (plus-Fits (c.args.arcs + 1) (cost_of c.loop-arc.best) (cost_of c.weight_by.result) c.loop-arc.invariant.fits (Fits-more (c.args.arcs - 1 + 2) (c.args.arcs + 1) (cost_of c.weight_by.result) (omega arith) c.weight_by.ensures.fits));
    }

pub weight_from-returns-clause-value : goal.weight_from-returns-clause-value
weight_from-returns-clause-value g t c =
    let kind = g.W.Weight.KIND in
    let value = g.W.Weight.value in
    let graph = graph_of (valued value c.args.fst.now) in
    let items = c.arcs-arc-items.result.now in
    let less = c.args.arcs - 1 in
    let all : take c.loop-arc.arc-index items ≡ items = take_all c.loop-arc.arc-index items (omega arith) in
    let same : graph.arcs c.args.state ≡ map (valued_arc value) items = graph_arcs value c.args.fst.now c.args.state items c.arcs-arc-items.ensures in
    let more : suc less ≡ c.args.arcs = omega arith in
    let ends = end_weight (graph.final c.args.state) c.args.input.now c.args.output.now in
    let by : List (Arc Cost ℕ) → Cost = λ arcs. plus ends (arcs_weight kind (weight_within kind graph less) c.args.input.now c.args.output.now arcs) in
    c.loop-arc.invariant.value ∙ (ap (λ arcs. by (map (valued_arc value) arcs)) all ∙ (ap by (sym same) ∙ ap (λ (k : ℕ). weight_within kind graph k c.args.state c.args.input.now c.args.output.now) more))
