-- Factors that cancel.
use Rattle.std.proofs.Common.{◌≡◌, ◌≢◌, true, false, sym, refl, ap, ◌∙◌, arith, Less}
use Rattle.std.specs.Prelude.{◌+ℤ◌}
use Rattle.std.proofs.lemmas.Int.{ints}
use Rattle.fst_semiring.specs.declared.arc_type.ArcType.{ArcType}
use Rattle.fst_semiring.specs.declared.arc_type.ArcType.TheVariants.{Boolean, Tropical, MinMax, Lexicographic}
use Rattle.fst_semiring.specs.Cost.{Cost, best, finite, infinite, first_of, second_of, cost_cmp, plus}
use Rattle.fst_semiring.specs.Semiring.{cancels, one_of, sum_of, times, IsCost}
use Rattle.fst_semiring.specs.Division.{difference_of, quotient}
use Rattle.fst_semiring.proofs.Laws.{pair_eq, times-plus}

-- where factors cancel, Times is the sum, division is the difference, One is 0 and no value is the best of all
pub times_sums : (kind : ArcType) (a b : Cost) → cancels kind ≡ true → times kind a b ≡ sum_of a b
times_sums Boolean a b k = refl
times_sums Tropical a b k = refl
times_sums MinMax a b k = cc
times_sums Lexicographic a b k = refl

pub quotient_subtracts : (kind : ArcType) (a by : Cost) → cancels kind ≡ true → quotient kind a by ≡ difference_of a by
quotient_subtracts Boolean a by k = refl
quotient_subtracts Tropical a by k = refl
quotient_subtracts MinMax a by k = cc
quotient_subtracts Lexicographic a by k = refl

pub never_best : (kind : ArcType) (a : Cost) → cancels kind ≡ true → IsCost kind a → a ≢ best
never_best Boolean best k h e = h
never_best Tropical best k h e = h
never_best MinMax best k h e = cc
never_best Lexicographic best k h e = h
never_best kind (finite a b) k h e = cc
never_best kind infinite k h e = cc

sum_cancels : (a b c : Cost) → a ≢ best → a ≢ infinite → sum_of a b ≡ sum_of a c → b ≡ c
sum_cancels best b c not_best not_zero e = absurd (not_best refl)
sum_cancels infinite b c not_best not_zero e = absurd (not_zero refl)
sum_cancels (finite p q) infinite infinite not_best not_zero e = refl
sum_cancels (finite p q) infinite best not_best not_zero e = cc
sum_cancels (finite p q) infinite (finite x y) not_best not_zero e = cc
sum_cancels (finite p q) best infinite not_best not_zero e = cc
sum_cancels (finite p q) best best not_best not_zero e = refl
sum_cancels (finite p q) best (finite x y) not_best not_zero e = cc
sum_cancels (finite p q) (finite u v) infinite not_best not_zero e = cc
sum_cancels (finite p q) (finite u v) best not_best not_zero e = cc
sum_cancels (finite p q) (finite u v) (finite x y) not_best not_zero e =
    let first : p +ℤ u ≡ p +ℤ x = ap first_of e in
    let second : q +ℤ v ≡ q +ℤ y = ap second_of e in
    pair_eq (omega (arith, ints, first)) (omega (arith, ints, second))

-- products with one factor that is not Zero are equal only where the other factors are
pub times_cancels : (kind : ArcType) (a b c : Cost) → cancels kind ≡ true → IsCost kind a → a ≢ infinite → times kind a b ≡ times kind a c → b ≡ c
times_cancels kind a b c k h not_zero e = sum_cancels a b c (never_best kind a k h) not_zero (sym (times_sums kind a b k) ∙ (e ∙ times_sums kind a c k))

-- and they are in order only where the other factors are
pub times_reflects : (kind : ArcType) (a b c : Cost) → cancels kind ≡ true → IsCost kind a → a ≢ infinite → plus (times kind a b) (times kind a c) ≡ times kind a b → plus b c ≡ b
times_reflects kind a b c k h not_zero e = times_cancels kind a (plus b c) b k h not_zero (times-plus kind a b c ∙ e)

-- where factors do not cancel, nothing is better than One
pub one_best : (kind : ArcType) (a : Cost) → cancels kind ≡ false → cost_cmp a (one_of kind) ≡ Less → ⊥
one_best Boolean a k e = cc
one_best Tropical a k e = cc
one_best MinMax best k e = cc
one_best MinMax (finite a b) k e = cc
one_best MinMax infinite k e = cc
one_best Lexicographic a k e = cc
