use Rattle.std.proofs.Common.{◌≡◌, ◌+◌, ℕ, ◌<◌, List, length, get_or, sum_by, sym, ap, ◌∙◌, subst, arith}
use Rattle.std.proofs.lemmas.List.{length-set, take_all}
use Rattle.fst_machine.specs.BreadthFirst.{Has}
use Rattle.fst_replace.specs.Walks.{at_place}
use Rattle.fst_replace.proofs.Counting.{has_at, next_count, next_right}
use Rattle.fst_replace.proofs.totals.totals_of.Goals as goal

pub places_at-places-requires : goal.places_at-places-requires
places_at-places-requires c = c.requires.listed _ (has_at c.args.order.now c.loop-at.at (omega arith))

pub number_at-requires : goal.number_at-requires
number_at-requires c = let low = c.requires.listed _ (has_at c.args.order.now c.loop-at.at (omega arith)) in omega (arith, low, c.requires.own)

pub total_of-requires-clause-brought : goal.total_of-requires-clause-brought
total_of-requires-clause-brought c j h = let low = c.requires.closed (get_or c.args.order.now c.loop-at.at 0) j (subst (λ (zs : List ℕ). Has zs j) c.places_at-places.ensures h) in omega (arith, low, c.requires.brought)

pub total_of-requires-clause-totals : goal.total_of-requires-clause-totals
total_of-requires-clause-totals c j h = let low = c.requires.closed (get_or c.args.order.now c.loop-at.at 0) j (subst (λ (zs : List ℕ). Has zs j) c.places_at-places.ensures h) in omega (arith, low, c.loop-at.invariant.size)

pub index_mut-requires : goal.index_mut-requires
index_mut-requires c = let low = c.requires.listed _ (has_at c.args.order.now c.loop-at.at (omega arith)) in omega (arith, low, c.loop-at.invariant.size)

pub returns-in-None-clause-totals : goal.returns-in-None-clause-totals
returns-in-None-clause-totals c count is =
    let order = c.args.order.now in
    let calls = at_place c.args.calls.now in
    let low : c.loop-at.at < length order = omega arith in
    let rule = get_or order c.loop-at.at 0 in
    let below = c.requires.listed rule (has_at order c.loop-at.at low) in
    let next = next_count calls c.args.own.now c.args.brought.now order c.loop-at.at 0 c.args.most c.loop-at.totals.items c.requires.ordered low (omega (arith, below, c.loop-at.invariant.size)) count (c.loop-at.invariant.right count is) is in
    let f = λ (j : ℕ). get_or c.args.brought.now j 0 + get_or c.loop-at.totals.items j 0 in
    let h = λ (j : ℕ). get_or c.args.brought.now j 0 + get_or c.as_slice.result.now j 0 in
    let sums : sum_by h c.places_at-places.result.now ≡ sum_by f (calls rule) = ap (λ (ts : List ℕ). sum_by (λ (j : ℕ). get_or c.args.brought.now j 0 + get_or ts j 0) c.places_at-places.result.now) c.as_slice.ensures.value ∙ ap (sum_by f) c.places_at-places.ensures in
    let all : count rule ≡ c.number_at.result + sum_by h c.places_at-places.result.now = next ∙ (ap (λ (n : ℕ). n + sum_by f (calls rule)) (sym c.number_at.ensures) ∙ ap (λ (n : ℕ). c.number_at.result + n) (sym sums)) in
    (rule, has_at order c.loop-at.at low, subst (λ (n : ℕ). c.args.most < n) (sym all) c.in-None.ensures)

pub loop-at-preserved : goal.loop-at-preserved
loop-at-preserved c =
    let order = c.args.order.now in
    let calls = at_place c.args.calls.now in
    let low : c.loop-at.at < length order = omega arith in
    let rule = get_or order c.loop-at.at 0 in
    let below = c.requires.listed rule (has_at order c.loop-at.at low) in
    let f = λ (j : ℕ). get_or c.args.brought.now j 0 + get_or c.loop-at.totals.items j 0 in
    let h = λ (j : ℕ). get_or c.args.brought.now j 0 + get_or c.as_slice.result.now j 0 in
    let sums : sum_by h c.places_at-places.result.now ≡ sum_by f (calls rule) = ap (λ (ts : List ℕ). sum_by (λ (j : ℕ). get_or c.args.brought.now j 0 + get_or ts j 0) c.places_at-places.result.now) c.as_slice.ensures.value ∙ ap (sum_by f) c.places_at-places.ensures in
    let all : c.in-Some.total ≡ get_or c.args.own.now rule 0 + sum_by f (calls rule) = c.in-Some.ensures.0 ∙ (ap (λ (n : ℕ). n + sum_by h c.places_at-places.result.now) c.number_at.ensures ∙ ap (λ (n : ℕ). get_or c.args.own.now rule 0 + n) sums) in
    record {
      size = length-set c.loop-at.totals.items rule c.in-Some.total ∙ c.loop-at.invariant.size;
      right = λ count is. next_right calls c.args.own.now c.args.brought.now order c.loop-at.at c.in-Some.total c.args.most c.loop-at.totals.items c.requires.ordered low (omega (arith, below, c.loop-at.invariant.size)) count (c.loop-at.invariant.right count is) is all c.in-Some.ensures.1;
    }

pub returns-clause-totals : goal.returns-clause-totals
returns-clause-totals c count is i h = c.loop-at.invariant.right count is i (subst (λ (zs : List ℕ). Has zs i) (sym (take_all c.loop-at.at c.args.order.now (omega arith))) h)
