use Rattle.std.proofs.Common.{◌≡◌, Some, List, sym, ap, ◌∙◌, subst}
use Rattle.std.specs.Option.{option_copied}
use Rattle.fst_semiring.specs.Cost.{Cost, plus}
use Rattle.fst_semiring.specs.Semiring.{IsWide}
use Rattle.fst_determinize.specs.Kept.{WayAs, ways_as}
use Rattle.fst_determinize.specs.Ways.{best_of}
use Rattle.fst_determinize.proofs.Puts.{member_put}
use Rattle.fst_determinize.proofs.Runs.{divided_best, divided_parts}
use Rattle.fst_determinize.proofs.making.put_members.Goals as goal

pub wide_divide-requires-clause-by_no_worse : goal.wide_divide-requires-clause-by_no_worse
wide_divide-requires-clause-by_no_worse g c =
    let value = g.W.Weight.wide_value in
    let by = value c.args.best in
    let least = c.state_run-count.ensures.best ∙ ap (λ (ys : List (WayAs g.row.W-Wide.Denot)). best_of (ways_as value ys)) (sym c.split_at.ensures.front) in
    let parts = divided_parts value by c.loop-first.rest.now c.split_at.result.0.now c.split_at.result.1.now c.split_at.ensures.by_index.0 c.loop-first.invariant.ways in
    subst (λ (v : Cost). plus by v ≡ by) (sym least) (divided_best value by c.split_at.result.0.now parts.0).0

pub wide_divide-requires-clause-a_wide : goal.wide_divide-requires-clause-a_wide
wide_divide-requires-clause-a_wide g c =
    let value = g.W.Weight.wide_value in
    let by = value c.args.best in
    let least = c.state_run-count.ensures.best ∙ ap (λ (ys : List (WayAs g.row.W-Wide.Denot)). best_of (ways_as value ys)) (sym c.split_at.ensures.front) in
    let parts = divided_parts value by c.loop-first.rest.now c.split_at.result.0.now c.split_at.result.1.now c.split_at.ensures.by_index.0 c.loop-first.invariant.ways in
    subst IsWide (sym least) (divided_best value by c.split_at.result.0.now parts.0).1

pub loop-first-preserved : goal.loop-first-preserved
loop-first-preserved g c =
    let value = g.W.Weight.wide_value in
    let by = value c.args.best in
    let least = c.state_run-count.ensures.best ∙ ap (λ (ys : List (WayAs g.row.W-Wide.Denot)). best_of (ways_as value ys)) (sym c.split_at.ensures.front) in
    let parts = divided_parts value by c.loop-first.rest.now c.split_at.result.0.now c.split_at.result.1.now c.split_at.ensures.by_index.0 c.loop-first.invariant.ways in
    record {
      ways = parts.1;
      put = member_put g.W.Weight.KIND value g.R.Kept.value by c.args.run.now c.loop-first.rest.now c.split_at.result.0.now c.split_at.result.1.now c.args.out.now.items c.loop-first.out.items c.put.new.out.items c.state_run-count.result.0 _ c.in-Some-keep.residual (value c.state_run-count.result.1)
          c.loop-first.invariant.ways (sym c.first.ensures.value ∙ (ap option_copied c.in-Some.is ∙ ap Some (sym c.first-in-Some.view_is))) c.state_run-count.ensures.few c.state_run-count.ensures.same c.state_run-count.ensures.next
          c.split_at.ensures.front c.split_at.ensures.back least (c.in-Some-keep.ensures ∙ c.wide_divide.ensures.quotient) c.in_ok-put.ensures c.loop-first.invariant.put;
    }
