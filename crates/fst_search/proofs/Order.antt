-- Better and no worse.
use Rattle.std.proofs.Common.{◌≡◌, ◌⊎◌, inl, inr, sym, refl, ap, ◌∙◌, subst, Ordering, Less, Equal, Greater, Bool, true, false}
use Rattle.std.specs.Bool.{Decides}
use Rattle.fst_semiring.specs.Cost.{Cost, infinite, cost_cmp, plus}
use Rattle.fst_semiring.specs.declared.arc_type.ArcType.{ArcType}
use Rattle.fst_semiring.specs.Semiring.{one_of, times}
use Rattle.fst_semiring.proofs.Order.{plus_comm, plus_infinite, plus_least, plus_less, plus_trans, plus_unless}
use Rattle.fst_semiring.proofs.Laws.{keeps_times, one_times}
use Rattle.fst_search.specs.Hops.{NoWorse, Better}

-- one value is better than another, or the other is no worse
pub better_or_not : (a b : Cost) → Better a b ⊎ NoWorse b a
better_or_not a b = by_order (cost_cmp a b) refl
  where
    by_order : (o : Ordering) → cost_cmp a b ≡ o → Better a b ⊎ NoWorse b a
    by_order Less e = inl e
    by_order Equal e = inr (plus_unless b a (λ less. let wrong : Equal ≡ Less = sym e ∙ less in cc))
    by_order Greater e = inr (plus_unless b a (λ less. let wrong : Greater ≡ Less = sym e ∙ less in cc))

-- a test that decides which is better, and says no
pub better_or_not_at : (a b : Cost) (test : Bool) → Decides test (Better a b) → test ≡ false → NoWorse b a
better_or_not_at a b test decides refused = by_case (better_or_not a b)
  where
    by_case : Better a b ⊎ NoWorse b a → NoWorse b a
    by_case (inl better) = absurd (let wrong : false ≡ true = sym refused ∙ decides.1 better in cc)
    by_case (inr h) = h

pub better_no_worse : (a b : Cost) → Better a b → NoWorse a b
better_no_worse a b h = plus_less a b h

pub better_not : (a b : Cost) → Better a b → NoWorse b a → ⊥
better_not a b better no_worse = plus_least b a no_worse better

pub better_then : (a b c : Cost) → Better a b → NoWorse b c → Better a c
better_then a b c one two = by_case (better_or_not a c)
  where
    by_case : Better a c ⊎ NoWorse c a → Better a c
    by_case (inl h) = h
    by_case (inr h) = absurd (better_not a b one (plus_trans b c a two h))

pub then_better : (a b c : Cost) → NoWorse a b → Better b c → Better a c
then_better a b c one two = by_case (better_or_not a c)
  where
    by_case : Better a c ⊎ NoWorse c a → Better a c
    by_case (inl h) = h
    by_case (inr h) = absurd (better_not b c two (plus_trans c a b h one))

-- nothing is worse than Zero, and Zero is better than nothing
pub before_infinite : (a : Cost) → NoWorse a infinite
before_infinite a = plus_infinite a

pub better_finite : (a b : Cost) → Better a b → a ≡ infinite → ⊥
better_finite a b better e = better_not a b better (subst (λ z. NoWorse b z) (sym e) (before_infinite b))

pub after_infinite : (a b : Cost) → NoWorse a b → a ≡ infinite → b ≡ infinite
after_infinite a b h e = sym (plus_infinite b) ∙ (plus_comm b infinite ∙ (ap (λ z. plus z b) (sym e) ∙ (h ∙ e)))

-- a factor that makes a value better is better than One
pub factor_better : (kind : ArcType) (p d : Cost) → Better (times kind p d) d → Better p (one_of kind)
factor_better kind p d better = by_case (better_or_not p (one_of kind))
  where
    by_case : Better p (one_of kind) ⊎ NoWorse (one_of kind) p → Better p (one_of kind)
    by_case (inl h) = h
    by_case (inr h) = absurd (better_not (times kind p d) d better (subst (λ z. NoWorse z (times kind p d)) (one_times kind d) (keeps_times kind d (one_of kind) p h)))

-- a product of two factors that are better than One is so
pub both_better : (kind : ArcType) (a b : Cost) → Better a (one_of kind) → Better b (one_of kind) → Better (times kind a b) (one_of kind)
both_better kind a b one two =
    let kept : NoWorse (times kind a b) (times kind (one_of kind) b) = keeps_times kind b a (one_of kind) (better_no_worse a (one_of kind) one) in
    then_better (times kind a b) b (one_of kind) (subst (λ z. NoWorse (times kind a b) z) (one_times kind b) kept) two
