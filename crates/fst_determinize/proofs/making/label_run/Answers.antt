use Rattle.std.proofs.Common.{◌≡◌, ◌+◌, sym, ap, ◌∙◌, arith}
use Rattle.fst_semiring.specs.Cost.{plus}
use Rattle.fst_determinize.specs.Kept.{WayAs, way_as}
use Rattle.fst_determinize.specs.Ways.{Way}
use Rattle.fst_determinize.proofs.Forms.{at_low, best_more}
use Rattle.fst_trim.proofs.Weighed.{all_more}
use Rattle.fst_determinize.proofs.making.label_run.Goals as goal

pub loop-way-preserved : goal.loop-way-preserved
loop-way-preserved g c =
    let value = g.W.Weight.wide_value in
    let ways = c.args.ways.now in
    let i = c.loop-way.way-index in
    record {
      count = ap (λ n. n + 1) c.loop-way.invariant.count;
      same = all_more (λ (y : WayAs g.row.W-Wide.Denot). y.label ≡ c.args.label) ways i c.way-item.result c.loop-way-test.true c.way-item.is c.loop-way.invariant.same (sym (ap (λ (y : WayAs g.row.W-Wide.Denot). y.label) c.way.view_is) ∙ c.if-way-label.false);
      best = best_more (way_as value) (λ (y : Way). y.weight) ways i c.way-item.result (value c.loop-way.best) _ c.loop-way-test.true c.way-item.is c.loop-way.invariant.best
          (c.wide_plus-best.ensures.sum ∙ ap (λ (y : WayAs g.row.W-Wide.Denot). plus (value c.loop-way.best) (value y.weight)) c.way.view_is);
    }

pub returns-clause-next : goal.returns-clause-next
returns-clause-next g c y at =
    let low = at_low c.args.ways.now c.loop-way.count y at in
    let high = c.loop-way-test.false in
    let same = c.loop-way.invariant.count in
    absurd (omega (arith, low, high, same))
