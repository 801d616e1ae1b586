use Rattle.std.proofs.Common.{◌≢◌, Some, List, sym, ap, ◌∙◌, subst}
use Rattle.std.specs.Option.{option_copied}
use Rattle.fst_semiring.specs.Cost.{Cost, infinite}
use Rattle.fst_semiring.specs.Semiring.{IsWide}
use Rattle.fst_determinize.specs.Kept.{AreDivided, WayAs, members_as, ways_as}
use Rattle.fst_determinize.specs.Ways.{best_of}
use Rattle.fst_determinize.proofs.Puts.{arc_made, arc_put, label_parts}
use Rattle.fst_determinize.proofs.Runs.{good_best}
use Rattle.fst_determinize.proofs.making.put_arcs.Goals as goal

pub put_members-requires-clause-ways : goal.put_members-requires-clause-ways
put_members-requires-clause-ways g c =
    let value = g.W.Weight.wide_value in
    let best = c.label_run-count.ensures.best ∙ ap (λ (ys : List (WayAs g.row.W-Wide.Denot)). best_of (ways_as value ys)) (sym c.split_at.ensures.front) in
    let parts = label_parts g.W.Weight.KIND value c.loop-first.rest.now c.split_at.result.0.now c.split_at.result.1.now c.label_run-count.result.0 _ c.loop-first.invariant.ways
    (sym c.first.ensures.value ∙ (ap option_copied c.in-Some.is ∙ ap Some (sym c.first-in-Some.view_is))) c.label_run-count.ensures.few c.label_run-count.ensures.same c.label_run-count.ensures.next c.split_at.ensures.front c.split_at.ensures.back in
    subst (λ (v : Cost). AreDivided value v c.split_at.result.0.now) (sym best) (good_best value c.split_at.result.0.now parts.ranked parts.good parts.some).0

pub put_members-requires-clause-not_zero : goal.put_members-requires-clause-not_zero
put_members-requires-clause-not_zero g c =
    let value = g.W.Weight.wide_value in
    let best = c.label_run-count.ensures.best ∙ ap (λ (ys : List (WayAs g.row.W-Wide.Denot)). best_of (ways_as value ys)) (sym c.split_at.ensures.front) in
    let parts = label_parts g.W.Weight.KIND value c.loop-first.rest.now c.split_at.result.0.now c.split_at.result.1.now c.label_run-count.result.0 _ c.loop-first.invariant.ways
    (sym c.first.ensures.value ∙ (ap option_copied c.in-Some.is ∙ ap Some (sym c.first-in-Some.view_is))) c.label_run-count.ensures.few c.label_run-count.ensures.same c.label_run-count.ensures.next c.split_at.ensures.front c.split_at.ensures.back in
    subst (λ (v : Cost). v ≢ infinite) (sym best) (good_best value c.split_at.result.0.now parts.ranked parts.good parts.some).1

pub put_members-requires-clause-wide : goal.put_members-requires-clause-wide
put_members-requires-clause-wide g c =
    let value = g.W.Weight.wide_value in
    let best = c.label_run-count.ensures.best ∙ ap (λ (ys : List (WayAs g.row.W-Wide.Denot)). best_of (ways_as value ys)) (sym c.split_at.ensures.front) in
    let parts = label_parts g.W.Weight.KIND value c.loop-first.rest.now c.split_at.result.0.now c.split_at.result.1.now c.label_run-count.result.0 _ c.loop-first.invariant.ways
    (sym c.first.ensures.value ∙ (ap option_copied c.in-Some.is ∙ ap Some (sym c.first-in-Some.view_is))) c.label_run-count.ensures.few c.label_run-count.ensures.same c.label_run-count.ensures.next c.split_at.ensures.front c.split_at.ensures.back in
    subst IsWide (sym best) (good_best value c.split_at.result.0.now parts.ranked parts.good parts.some).2

pub loop-first-smaller : goal.loop-first-smaller
loop-first-smaller g c =
    let value = g.W.Weight.wide_value in
    let parts = label_parts g.W.Weight.KIND value c.loop-first.rest.now c.split_at.result.0.now c.split_at.result.1.now c.label_run-count.result.0 _ c.loop-first.invariant.ways
    (sym c.first.ensures.value ∙ (ap option_copied c.in-Some.is ∙ ap Some (sym c.first-in-Some.view_is))) c.label_run-count.ensures.few c.label_run-count.ensures.same c.label_run-count.ensures.next c.split_at.ensures.front c.split_at.ensures.back in
    parts.shorter

pub loop-first-preserved : goal.loop-first-preserved
loop-first-preserved g c =
    let value = g.W.Weight.wide_value in
    let best = c.label_run-count.ensures.best ∙ ap (λ (ys : List (WayAs g.row.W-Wide.Denot)). best_of (ways_as value ys)) (sym c.split_at.ensures.front) in
    let start = sym c.first.ensures.value ∙ (ap option_copied c.in-Some.is ∙ ap Some (sym c.first-in-Some.view_is)) in
    let parts = label_parts g.W.Weight.KIND value c.loop-first.rest.now c.split_at.result.0.now c.split_at.result.1.now c.label_run-count.result.0 _ c.loop-first.invariant.ways
    start c.label_run-count.ensures.few c.label_run-count.ensures.same c.label_run-count.ensures.next c.split_at.ensures.front c.split_at.ensures.back in
    record {
      ways = parts.rest;
      put = arc_put g.W.Weight.KIND value c.args.ways.now c.loop-first.rest.now c.split_at.result.0.now c.split_at.result.1.now _ _ _ c.label_run-count.result.0 _ c.loop-first.invariant.ways
          start c.label_run-count.ensures.few c.label_run-count.ensures.same c.label_run-count.ensures.next c.split_at.ensures.front c.split_at.ensures.back
          (arc_made g.W.Weight.KIND value g.R.Kept.value c.split_at.result.0.now c.loop-first.out.items c.put.new.out.items c.first-in-Some.inside.label c.label_run-count.result.1 c.put_members.new.out.items c.clear.new.self.items c.in_ok-next.next c.clear.ensures.items c.in_ok-put_members.ensures (c.in_ok-next.ensures ∙ ap (members_as g.R.Kept.value) c.as_slice.ensures.value) best c.in_ok-put.ensures)
          c.loop-first.invariant.put;
    }
