use Rattle.std.proofs.Common.{◌≡◌, ◌+◌, ℕ, [], ◌∷◌, ◌++◌, List, length, sym, ap, ◌∙◌, subst, arith}
use Rattle.std.proofs.lemmas.List.{length_push}
use Rattle.fst_semiring.specs.Cost.{Cost, plus}
use Rattle.fst_machine.specs.Machine.{valued}
use Rattle.fst_machine.specs.Graph.{graph_of}
use Rattle.fst_machine.specs.Within.{ways_weight}
use Rattle.fst_machine.proofs.Walking.{graph_arcs}
use Rattle.fst_plain.specs.declared.cost.PlainCost.{PlainCost}
use Rattle.fst_plain.specs.Plain.{cost_of, Fits}
use Rattle.fst_plain.specs.Tables.{table_at, AllFit}
use Rattle.fst_plain.proofs.Bounds.{plus-Fits}
use Rattle.fst_plain.proofs.Tables.{values-push, AllFit-push}
use Rattle.fst_plain.proofs.distance.relax.Goals as goal

pub loop-state-preserved : goal.loop-state-preserved
loop-state-preserved g c =
    let old = c.loop-state.more.items in
    let new = c.push.new.self.items in
    let p = c.loop-state.state in
    let value = g.W.Weight.value in
    let graph = graph_of (valued value c.args.fst.now) in
    let both = c.plus_costs.result in
    let e : new ≡ old ++ both ∷ [] = c.in_ok-push.ensures.items in
    let f : ℕ → Cost = λ q. plus (table_at c.args.targets.now q) (ways_weight g.W.Weight.KIND (table_at c.args.table.now) (graph.arcs q)) in
    let way : cost_of c.best_way-way.result ≡ ways_weight g.W.Weight.KIND (table_at c.args.table.now) (graph.arcs p) = c.best_way-way.ensures.value ∙ ap (ways_weight g.W.Weight.KIND (table_at c.args.table.now)) (sym (graph_arcs value c.args.fst.now p c.arcs.result.now c.arcs.ensures)) in
    let last : cost_of both ≡ f p = c.plus_costs.ensures ∙ (λ i. plus (c.read_table.ensures i) (way i)) in
    record {
      size = omega (arith, ap length e, length_push old both, c.loop-state.invariant.size);
      value = λ q low. subst (λ (t : List PlainCost). table_at t q ≡ f q) (sym e) (values-push old both f p c.loop-state.invariant.size c.loop-state.invariant.value last q low);
      fits = λ n all some. subst (λ (t : List PlainCost). AllFit (n + 1) t) (sym e) (AllFit-push (n + 1) old both (c.loop-state.invariant.fits n all some) (subst (λ z. Fits (n + 1) z) (sym c.plus_costs.ensures) (plus-Fits (n + 1) (cost_of c.read_table.result) (cost_of c.best_way-way.result) (subst (λ z. Fits (n + 1) z) (sym c.read_table.ensures) (some p)) (c.best_way-way.ensures.fits n all))));
    }
