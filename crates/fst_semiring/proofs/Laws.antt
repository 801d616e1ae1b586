-- The laws of Times, for every arc type and all values. (Mohri 2009, section 2.)
use Rattle.std.proofs.Common.{◌≡◌, ◌⊎◌, inl, inr, sym, refl, ap, ap₂, ◌∙◌, Ordering, Less, Equal, Greater, arith}
use Rattle.std.specs.Prelude.{ℤ, pos, ◌+ℤ◌, ◌<ℤ◌}
use Rattle.std.specs.Ordering.{ordering_then, int_cmp, MatchOrdering}
use Rattle.std.specs.Cmp.{int_cmp_is, int_ranks}
use Rattle.std.proofs.Math.IntN.{+ℤ_assoc, +ℤ_comm, +ℤ_idl}
use Rattle.std.proofs.lemmas.Int.{ints}
use Rattle.fst_semiring.specs.declared.arc_type.ArcType.{ArcType}
use Rattle.fst_semiring.specs.declared.arc_type.ArcType.TheVariants.{Boolean, Tropical, MinMax, Lexicographic}
use Rattle.fst_semiring.specs.Cost.{Cost, best, finite, infinite, ranked, plus, worse}
use Rattle.fst_semiring.specs.Semiring.{one_of, sum_of, times}
use Rattle.fst_semiring.proofs.Order.{worse_comm, worse_assoc, worse-plus, worse_best, worse_infinite, worse_picks}

-- pairs with equal parts are equal
pub pair_eq : {a b c d : ℤ} → a ≡ c → b ≡ d → finite a b ≡ finite c d
pair_eq e f = ap₂ finite e f

sum_assoc : (a b c : Cost) → sum_of (sum_of a b) c ≡ sum_of a (sum_of b c)
sum_assoc infinite b c = refl
sum_assoc best infinite c = refl
sum_assoc best best infinite = refl
sum_assoc best best best = refl
sum_assoc best best (finite e f) = refl
sum_assoc best (finite c d) infinite = refl
sum_assoc best (finite c d) best = refl
sum_assoc best (finite c d) (finite e f) = refl
sum_assoc (finite a b) infinite c = refl
sum_assoc (finite a b) best infinite = refl
sum_assoc (finite a b) best best = refl
sum_assoc (finite a b) best (finite e f) = refl
sum_assoc (finite a b) (finite c d) infinite = refl
sum_assoc (finite a b) (finite c d) best = refl
sum_assoc (finite a b) (finite c d) (finite e f) = pair_eq (+ℤ_assoc a c e) (+ℤ_assoc b d f)

sum_comm : (a b : Cost) → sum_of a b ≡ sum_of b a
sum_comm infinite infinite = refl
sum_comm infinite best = refl
sum_comm infinite (finite c d) = refl
sum_comm best infinite = refl
sum_comm best best = refl
sum_comm best (finite c d) = refl
sum_comm (finite a b) infinite = refl
sum_comm (finite a b) best = refl
sum_comm (finite a b) (finite c d) = pair_eq (+ℤ_comm a c) (+ℤ_comm b d)

sum_one : (a : Cost) → sum_of (finite (pos 0) (pos 0)) a ≡ a
sum_one infinite = refl
sum_one best = refl
sum_one (finite a b) = pair_eq (+ℤ_idl a) (+ℤ_idl b)

-- adding the same to both sides does not change how numbers compare
int_cmp-shift : (k a b : ℤ) → int_cmp (k +ℤ a) (k +ℤ b) ≡ int_cmp a b
int_cmp-shift k a b = sym (int_cmp_is (k +ℤ a) (k +ℤ b) (int_cmp a b) (by_order (int_cmp a b) (int_ranks a b)))
  where
    by_order : (o : Ordering) → MatchOrdering o (a <ℤ b) (a ≡ b) (b <ℤ a) → MatchOrdering o ((k +ℤ a) <ℤ (k +ℤ b)) (k +ℤ a ≡ k +ℤ b) ((k +ℤ b) <ℤ (k +ℤ a))
    by_order Less h = omega (arith, ints)
    by_order Equal h = ap (λ z. k +ℤ z) h
    by_order Greater h = omega (arith, ints)

sum-plus : (a b c : Cost) → sum_of a (plus b c) ≡ plus (sum_of a b) (sum_of a c)
sum-plus infinite b c = refl
sum-plus best infinite infinite = refl
sum-plus best infinite best = refl
sum-plus best infinite (finite e f) = refl
sum-plus best best infinite = refl
sum-plus best best best = refl
sum-plus best best (finite e f) = refl
sum-plus best (finite c d) infinite = refl
sum-plus best (finite c d) best = refl
sum-plus best (finite c d) (finite e f) = by_order (ordering_then (int_cmp c e) (int_cmp d f))
  where
    by_order : (o : Ordering) → sum_of best (ranked o (finite c d) (finite e f)) ≡ best
    by_order Less = refl
    by_order Equal = refl
    by_order Greater = refl
sum-plus (finite a b) infinite infinite = refl
sum-plus (finite a b) infinite best = refl
sum-plus (finite a b) infinite (finite e f) = refl
sum-plus (finite a b) best infinite = refl
sum-plus (finite a b) best best = refl
sum-plus (finite a b) best (finite e f) = refl
sum-plus (finite a b) (finite c d) infinite = refl
sum-plus (finite a b) (finite c d) best = refl
sum-plus (finite a b) (finite c d) (finite e f) =
    let same : ordering_then (int_cmp (a +ℤ c) (a +ℤ e)) (int_cmp (b +ℤ d) (b +ℤ f)) ≡ ordering_then (int_cmp c e) (int_cmp d f) = ap₂ ordering_then (int_cmp-shift a c e) (int_cmp-shift b d f) in
    by_order (ordering_then (int_cmp c e) (int_cmp d f)) ∙ ap (λ o. ranked o (finite (a +ℤ c) (b +ℤ d)) (finite (a +ℤ e) (b +ℤ f))) (sym same)
  where
    by_order : (o : Ordering) → sum_of (finite a b) (ranked o (finite c d) (finite e f)) ≡ ranked o (finite (a +ℤ c) (b +ℤ d)) (finite (a +ℤ e) (b +ℤ f))
    by_order Less = refl
    by_order Equal = refl
    by_order Greater = refl

sum_zero : (a b : Cost) → sum_of a b ≡ infinite → (a ≡ infinite) ⊎ (b ≡ infinite)
sum_zero infinite b e = inl refl
sum_zero best infinite e = inr refl
sum_zero best best e = inr e
sum_zero best (finite c d) e = inl e
sum_zero (finite a b) infinite e = inr refl
sum_zero (finite a b) best e = inr e
sum_zero (finite a b) (finite c d) e = cc

-- Times is associative
pub times_assoc : (kind : ArcType) (a b c : Cost) → times kind (times kind a b) c ≡ times kind a (times kind b c)
times_assoc Boolean a b c = sum_assoc a b c
times_assoc Tropical a b c = sum_assoc a b c
times_assoc MinMax a b c = worse_assoc a b c
times_assoc Lexicographic a b c = sum_assoc a b c

-- Times is commutative
pub times_comm : (kind : ArcType) (a b : Cost) → times kind a b ≡ times kind b a
times_comm Boolean a b = sum_comm a b
times_comm Tropical a b = sum_comm a b
times_comm MinMax a b = worse_comm a b
times_comm Lexicographic a b = sum_comm a b

-- One is neutral in Times, on either side
pub one_times : (kind : ArcType) (a : Cost) → times kind (one_of kind) a ≡ a
one_times Boolean a = sum_one a
one_times Tropical a = sum_one a
one_times MinMax a = worse_best a
one_times Lexicographic a = sum_one a

pub times_one : (kind : ArcType) (a : Cost) → times kind a (one_of kind) ≡ a
times_one kind a = times_comm kind a (one_of kind) ∙ one_times kind a

-- Zero annihilates, on either side
pub zero_times : (kind : ArcType) (a : Cost) → times kind infinite a ≡ infinite
zero_times Boolean a = refl
zero_times Tropical a = refl
zero_times MinMax a = worse_infinite a
zero_times Lexicographic a = refl

pub times_zero : (kind : ArcType) (a : Cost) → times kind a infinite ≡ infinite
times_zero kind a = times_comm kind a infinite ∙ zero_times kind a

-- a product is Zero only where a factor is
pub times_only_zero : (kind : ArcType) (a b : Cost) → times kind a b ≡ infinite → (a ≡ infinite) ⊎ (b ≡ infinite)
times_only_zero Boolean a b e = sum_zero a b e
times_only_zero Tropical a b e = sum_zero a b e
times_only_zero MinMax a b e = by_pick (worse_picks a b)
  where
    by_pick : (worse a b ≡ a) ⊎ (worse a b ≡ b) → (a ≡ infinite) ⊎ (b ≡ infinite)
    by_pick (inl p) = inl (sym p ∙ e)
    by_pick (inr p) = inr (sym p ∙ e)
times_only_zero Lexicographic a b e = sum_zero a b e

-- One is not Zero
pub one_not_zero : (kind : ArcType) → one_of kind ≡ infinite → ⊥
one_not_zero Boolean e = cc
one_not_zero Tropical e = cc
one_not_zero MinMax e = cc
one_not_zero Lexicographic e = cc

-- Times distributes over Plus
pub times-plus : (kind : ArcType) (a b c : Cost) → times kind a (plus b c) ≡ plus (times kind a b) (times kind a c)
times-plus Boolean a b c = sum-plus a b c
times-plus Tropical a b c = sum-plus a b c
times-plus MinMax a b c = worse-plus a b c
times-plus Lexicographic a b c = sum-plus a b c

-- Times keeps the order
pub times_keeps : (kind : ArcType) (a b c : Cost) → plus b c ≡ b → plus (times kind a b) (times kind a c) ≡ times kind a b
times_keeps kind a b c e = sym (times-plus kind a b c) ∙ ap (λ z. times kind a z) e

-- the same with the factor behind
pub keeps_times : (kind : ArcType) (a b c : Cost) → plus b c ≡ b → plus (times kind b a) (times kind c a) ≡ times kind b a
keeps_times kind a b c e = ap₂ plus (times_comm kind b a) (times_comm kind c a) ∙ (times_keeps kind a b c e ∙ times_comm kind a b)

-- products of four, regrouped
pub times_four : (kind : ArcType) (a b c d : Cost) → times kind (times kind a b) (times kind c d) ≡ times kind (times kind a c) (times kind b d)
times_four kind a b c d =
    let t : Cost → Cost → Cost = times kind in
    let inner : t b (t c d) ≡ t c (t b d) = sym (times_assoc kind b c d) ∙ (ap (λ z. t z d) (times_comm kind b c) ∙ times_assoc kind c b d) in
    times_assoc kind a b (t c d) ∙ (ap (t a) inner ∙ sym (times_assoc kind a c (t b d)))
