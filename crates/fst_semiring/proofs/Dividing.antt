-- Subset division and push division.
use Rattle.std.proofs.Common.{◌≡◌, ◌≢◌, true, sym, refl, ap, ap₂, ◌∙◌, Ordering, Less, Equal, Greater, arith}
use Rattle.std.proofs.lemmas.Int.{ints}
use Rattle.fst_semiring.specs.declared.arc_type.ArcType.{ArcType}
use Rattle.fst_semiring.specs.declared.arc_type.ArcType.TheVariants.{Boolean, Tropical, MinMax, Lexicographic}
use Rattle.fst_semiring.specs.Cost.{Cost, best, finite, infinite, cost_cmp, ranked, plus, worse}
use Rattle.fst_semiring.specs.Semiring.{cancels, one_of, sum_of, times, IsCost}
use Rattle.fst_semiring.specs.Division.{difference_of, quotient, push_quotient, if_tied}
use Rattle.fst_semiring.proofs.Order.{cost_cmp_equal, cost_cmp_same}
use Rattle.fst_semiring.proofs.Laws.{pair_eq, times_one}
use Rattle.fst_semiring.proofs.Cancelling.{times_sums, quotient_subtracts, never_best, times_cancels, times_reflects}

sum_difference : (a by : Cost) → by ≢ best → by ≢ infinite → sum_of by (difference_of a by) ≡ a
sum_difference a best not_best not_zero = absurd (not_best refl)
sum_difference a infinite not_best not_zero = absurd (not_zero refl)
sum_difference infinite (finite c d) not_best not_zero = refl
sum_difference best (finite c d) not_best not_zero = refl
sum_difference (finite a b) (finite c d) not_best not_zero = pair_eq (omega (arith, ints)) (omega (arith, ints))

-- where factors cancel, the divisor times the quotient is the value, even where the divisor is worse
undone-cancels : (kind : ArcType) (a by : Cost) → cancels kind ≡ true → IsCost kind by → by ≢ infinite → times kind by (quotient kind a by) ≡ a
undone-cancels kind a by k h not_zero = times_sums kind by (quotient kind a by) k ∙ (ap (sum_of by) (quotient_subtracts kind a by k) ∙ sum_difference a by (never_best kind by k h) not_zero)

-- the worse of two values where the first is no worse
worse_second : (a b : Cost) → plus a b ≡ a → worse a b ≡ b
worse_second a b = by_order (cost_cmp a b)
  where
    by_order : (o : Ordering) → ranked o a b ≡ a → ranked o b a ≡ b
    by_order Less e = refl
    by_order Equal e = refl
    by_order Greater e = sym e

-- the divisor times the quotient is the value
pub quotient_undone : (kind : ArcType) (a by : Cost) → IsCost kind by → by ≢ infinite → plus by a ≡ by → times kind by (quotient kind a by) ≡ a
quotient_undone Boolean a by h not_zero e = undone-cancels Boolean a by refl h not_zero
quotient_undone Tropical a by h not_zero e = undone-cancels Tropical a by refl h not_zero
quotient_undone MinMax a by h not_zero e = worse_second by a e
quotient_undone Lexicographic a by h not_zero e = undone-cancels Lexicographic a by refl h not_zero

-- the quotient by a better or equal value is not better than One
no_better-cancels : (kind : ArcType) (a by : Cost) → cancels kind ≡ true → IsCost kind by → by ≢ infinite → plus by a ≡ by → plus (one_of kind) (quotient kind a by) ≡ one_of kind
no_better-cancels kind a by k h not_zero e =
    let one : times kind by (one_of kind) ≡ by = times_one kind by in
    times_reflects kind by (one_of kind) (quotient kind a by) k h not_zero (ap₂ plus one (undone-cancels kind a by k h not_zero) ∙ (e ∙ sym one))

best_plus : (a : Cost) → plus best a ≡ best
best_plus best = refl
best_plus (finite a b) = refl
best_plus infinite = refl

pub quotient_no_better : (kind : ArcType) (a by : Cost) → IsCost kind by → by ≢ infinite → plus by a ≡ by → plus (one_of kind) (quotient kind a by) ≡ one_of kind
quotient_no_better Boolean a by h not_zero e = no_better-cancels Boolean a by refl h not_zero e
quotient_no_better Tropical a by h not_zero e = no_better-cancels Tropical a by refl h not_zero e
quotient_no_better MinMax a by h not_zero e = best_plus a
quotient_no_better Lexicographic a by h not_zero e = no_better-cancels Lexicographic a by refl h not_zero e

-- where factors cancel, the quotient is the only value that the divisor makes the value of
pub quotient_only : (kind : ArcType) (a by q : Cost) → cancels kind ≡ true → IsCost kind by → by ≢ infinite → times kind by q ≡ a → q ≡ quotient kind a by
quotient_only kind a by q k h not_zero e = times_cancels kind by q (quotient kind a by) k h not_zero (e ∙ sym (undone-cancels kind a by k h not_zero))

-- Zero by anything is Zero
pub quotient_zero : (kind : ArcType) (by : Cost) → quotient kind infinite by ≡ infinite
quotient_zero Boolean by = refl
quotient_zero Tropical by = refl
quotient_zero MinMax by = refl
quotient_zero Lexicographic by = refl

-- push division is One between equal values
pub push_one : (kind : ArcType) (a by : Cost) → a ≡ by → push_quotient kind a by ≡ one_of kind
push_one kind a by e =
    let tied : cost_cmp a by ≡ Equal = ap (cost_cmp a) (sym e) ∙ cost_cmp_same a in
    ap (λ o. if_tied o (one_of kind) (quotient kind a by)) tied

-- and else subset division
pub push_apart : (kind : ArcType) (a by : Cost) → a ≢ by → push_quotient kind a by ≡ quotient kind a by
push_apart kind a by apart = by_order (cost_cmp a by) (cost_cmp_equal a by)
  where
    by_order : (o : Ordering) → (o ≡ Equal → a ≡ by) → if_tied o (one_of kind) (quotient kind a by) ≡ quotient kind a by
    by_order Less exact = refl
    by_order Equal exact = absurd (apart (exact refl))
    by_order Greater exact = refl

-- what holds of One between equal values and of subset division holds of push division
pub push_either : (kind : ArcType) (a by : Cost) (P : Cost → Type 0) → (a ≡ by → P (one_of kind)) → P (quotient kind a by) → P (push_quotient kind a by)
push_either kind a by P same other = by_order (cost_cmp a by) (cost_cmp_equal a by)
  where
    by_order : (o : Ordering) → (o ≡ Equal → a ≡ by) → P (if_tied o (one_of kind) (quotient kind a by))
    by_order Less exact = other
    by_order Equal exact = same (exact refl)
    by_order Greater exact = other

pub push_undone : (kind : ArcType) (a by : Cost) → IsCost kind by → by ≢ infinite → plus by a ≡ by → times kind by (push_quotient kind a by) ≡ a
push_undone kind a by h not_zero e = push_either kind a by (λ q. times kind by q ≡ a) (λ same. times_one kind by ∙ sym same) (quotient_undone kind a by h not_zero e)

-- where factors cancel, the two divisions are one
pub push_cancels : (kind : ArcType) (a by : Cost) → cancels kind ≡ true → IsCost kind by → by ≢ infinite → push_quotient kind a by ≡ quotient kind a by
push_cancels kind a by k h not_zero = push_either kind a by (λ q. q ≡ quotient kind a by) (λ same. quotient_only kind a by (one_of kind) k h not_zero (times_one kind by ∙ sym same)) refl
