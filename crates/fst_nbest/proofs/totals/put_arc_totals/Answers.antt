use Rattle.std.proofs.Common.{◌≡◌, ◌<◌, ℕ, length, map, sym, ap, ◌∙◌, subst, arith}
use Rattle.std.proofs.lemmas.Option.{slice_get_within}
use Rattle.fst_semiring.specs.Cost.{Cost}
use Rattle.fst_machine.specs.BreadthFirst.{Has}
use Rattle.fst_machine.specs.Machine.{Arc}
use Rattle.fst_search.proofs.MachineHops.{all_at}
use Rattle.fst_nbest.specs.Ready.{dist_in}
use Rattle.fst_nbest.specs.Totals.{MayTotal}
use Rattle.fst_nbest.proofs.Counted.{item_at}
use Rattle.fst_nbest.proofs.Gathered.{one_more}
use Rattle.fst_nbest.proofs.Preparing.{dist_is}
use Rattle.fst_nbest.proofs.totals.put_arc_totals.Goals as goal

pub loop-arc-preserved : goal.loop-arc-preserved
loop-arc-preserved g c =
    let wide = g.W.Weight.wide_value in
    let value = g.M.AsMachine.value in
    let i = c.loop-arc.arc-index in
    let a = c.arc-item.result in
    let arcs = c.args.arcs.now in
    let dist = c.args.dist.now.items in
    let new = map wide c.put_total.new.totals.items in
    let keeps = c.in_ok-put_total.ensures.keeps in
    let at = item_at arcs i a c.loop-arc-test.true c.arc-item.is in
    let weight = c.widened.ensures.same ∙ ap (λ (b : Arc g.row.V.Denot ℕ). value b.weight) c.arc.view_is in
    let next = ap (λ (b : Arc g.row.V.Denot ℕ). b.next) c.arc.view_is in
    let low : c.arc.inside.next < length dist = (let l = all_at (λ (b : Arc g.row.V.Denot ℕ). b.next < length dist) arcs i a c.requires.next at in omega (arith, l, next)) in
    let ahead : wide c.index-ahead.result.now ≡ dist_in wide dist a.next = dist_is wide dist c.arc.inside.next c.index-ahead.result.now low c.index-ahead.ensures ∙ ap (dist_in wide dist) next in
    record {
      heap = c.in_ok-put_total.ensures.heap;
      solids = c.in_ok-put_total.ensures.solids;
      keeps = λ v there. keeps v (c.loop-arc.invariant.keeps v there);
      here = one_more (λ (b : Arc g.row.V.Denot ℕ). MayTotal (wide c.args.least) (dist_in wide dist b.next) (value b.weight) → Has new (value b.weight)) arcs i a at
          (λ may. subst (Has new) weight (c.in_ok-put_total.ensures.here (subst (λ (w : Cost). MayTotal (wide c.args.least) (wide c.index-ahead.result.now) w) (sym weight) (subst (λ (d : Cost). MayTotal (wide c.args.least) d (value a.weight)) (sym ahead) may))))
          (λ k b before there may. keeps (value b.weight) (c.loop-arc.invariant.here k b before there may));
    }

pub returns-clause-here : goal.returns-clause-here
returns-clause-here g c k a there may = c.loop-arc.invariant.here k a (let within = slice_get_within c.args.arcs.now k a there in omega (arith, within, c.loop-arc-test.false)) there may
