use Rattle.std.proofs.Common.{◌≡◌, [], ◌∷◌, ◌++◌, List, length, sym, ap, ◌∙◌, subst, arith}
use Rattle.std.proofs.lemmas.List.{length_push}
use Rattle.fst_machine.specs.Machine.{valued}
use Rattle.fst_machine.specs.Graph.{graph_of}
use Rattle.fst_plain.specs.declared.cost.PlainCost.{PlainCost}
use Rattle.fst_plain.specs.Tables.{table_at, AllFit}
use Rattle.fst_plain.proofs.Tables.{values-push, AllFit-push, graph_final}
use Rattle.fst_plain.proofs.distance.final_weights.Goals as goal

pub loop-p-preserved : goal.loop-p-preserved
loop-p-preserved g c =
    let old = c.loop-p.table.items in
    let new = c.push.new.self.items in
    let value = g.W.Weight.value in
    let e : new ≡ old ++ c.plain_cost.result ∷ [] = c.in_ok-push.ensures.items in
    let last = c.plain_cost.ensures.value ∙ sym (graph_final value c.args.fst.now c.loop-p.p c.final_weight.result c.final_weight.ensures) in
    record {
      size = omega (arith, ap length e, length_push old c.plain_cost.result, c.loop-p.invariant.size);
      value = λ p low. subst (λ (t : List PlainCost). table_at t p ≡ (graph_of (valued value c.args.fst.now)).final p) (sym e) (values-push old c.plain_cost.result (graph_of (valued value c.args.fst.now)).final c.loop-p.p c.loop-p.invariant.size c.loop-p.invariant.value last p low);
      fits = subst (λ (t : List PlainCost). AllFit 1 t) (sym e) (AllFit-push 1 old c.plain_cost.result c.loop-p.invariant.fits c.plain_cost.ensures.fits);
    }
