use Rattle.std.proofs.Common.{ℕ, ◌≡◌, ◌<◌, ◌+◌, length, sym, ap, ◌∙◌, subst, arith}
use Rattle.fst_semiring.specs.Cost.{plus}
use Rattle.fst_semiring.specs.Semiring.{times}
use Rattle.fst_machine.specs.Machine.{Arc, valued_arc}
use Rattle.fst_plain.specs.Plain.{cost_of, Fits}
use Rattle.fst_plain.specs.Tables.{table_at}
use Rattle.fst_plain.proofs.Bounds.{Fits-more, Fits-sum, times-Fits, plus-Fits}
use Rattle.fst_plain.proofs.Folds.{ways_more}
use Rattle.fst_plain.proofs.distance.best_way.Goals as goal

pub times_costs-way-requires : goal.times_costs-way-requires
times_costs-way-requires g c =
    let n = c.requires.fits.0 in
    Fits-sum 1 n (cost_of c.plain_cost.result) (cost_of c.read_table.result) (omega (arith, c.requires.fits.1)) c.plain_cost.ensures.fits (subst (λ z. Fits n z) (sym c.read_table.ensures) (c.requires.fits.2 c.arc.inside.next))

pub loop-arc-preserved : goal.loop-arc-preserved
loop-arc-preserved g c =
    let x = c.arc-item.result in
    let kind = g.W.Weight.KIND in
    let value = g.W.Weight.value in
    let rest = table_at c.args.table.now in
    let low : c.loop-arc.arc-index < length c.args.arcs.now = omega arith in
    let weight : cost_of c.plain_cost.result ≡ value x.weight = c.plain_cost.ensures.value ∙ ap (λ (a : Arc g.row.W.Denot ℕ). value a.weight) c.arc.view_is in
    let further : cost_of c.read_table.result ≡ rest x.next = c.read_table.ensures ∙ ap (λ (a : Arc g.row.W.Denot ℕ). rest a.next) c.arc.view_is in
    let best : cost_of c.plus_costs-best.result ≡ plus (cost_of c.loop-arc.best) (times kind (value x.weight) (rest x.next)) = c.plus_costs-best.ensures ∙ ap (plus (cost_of c.loop-arc.best)) (c.times_costs-way.ensures ∙ (λ i. times (c.KIND.ensures i) (weight i) (further i))) in
    record {
      value = ways_more kind rest (valued_arc value) c.args.arcs.now c.loop-arc.arc-index x (cost_of c.loop-arc.best) (cost_of c.plus_costs-best.result) low c.arc-item.is c.loop-arc.invariant.value best;
      fits = λ n all. subst (λ z. Fits (n + 1) z) (sym c.plus_costs-best.ensures) (plus-Fits (n + 1) (cost_of c.loop-arc.best) (cost_of c.times_costs-way.result) (c.loop-arc.invariant.fits n all) (subst (λ z. Fits (n + 1) z) (sym c.times_costs-way.ensures) (Fits-more (1 + n) (n + 1) (times c.KIND.result (cost_of c.plain_cost.result) (cost_of c.read_table.result)) (omega arith) (times-Fits c.KIND.result 1 n (cost_of c.plain_cost.result) (cost_of c.read_table.result) c.plain_cost.ensures.fits (subst (λ z. Fits n z) (sym c.read_table.ensures) (all c.arc.inside.next))))));
    }
