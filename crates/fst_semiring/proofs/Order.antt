-- The order of values, and the better and the worse of two, as laws.
use Rattle.std.proofs.Common.{◌≡◌, ◌⊎◌, inl, inr, sym, refl, ap, ◌∙◌, Ordering, Less, Equal, Greater, arith}
use Rattle.std.specs.Ordering.{ordering_then, int_cmp, ordering_reverse}
use Rattle.std.specs.Cmp.{IsTotalOrder}
use Rattle.std.proofs.lemmas.Cmp.{tied_itself}
use Rattle.std.proofs.lemmas.Map.Lookups.{exact_signed}
use Rattle.fst_semiring.specs.Cost.{Cost, best, finite, infinite, cost_cmp, cost_total, ranked, plus, worse}

-- a comparison in two steps is a tie only where both are
pub then_equal : (o p : Ordering) → ordering_then o p ≡ Equal → (o ≡ Equal) × (p ≡ Equal)
then_equal Less p e = (cc, cc)
then_equal Equal p e = (refl, e)
then_equal Greater p e = (cc, cc)

-- values that tie are one value
pub cost_cmp_equal : (a b : Cost) → cost_cmp a b ≡ Equal → a ≡ b
cost_cmp_equal best best e = refl
cost_cmp_equal best (finite c d) e = cc
cost_cmp_equal best infinite e = cc
cost_cmp_equal (finite a b) best e = cc
cost_cmp_equal (finite a b) (finite c d) e =
    let both = then_equal (int_cmp a c) (int_cmp b d) e in
    let first : a ≡ c = exact_signed a c both.0 in
    let second : b ≡ d = exact_signed b d both.1 in
    cc
cost_cmp_equal (finite a b) infinite e = cc
cost_cmp_equal infinite best e = cc
cost_cmp_equal infinite (finite c d) e = cc
cost_cmp_equal infinite infinite e = refl

-- a value ties with itself
pub cost_cmp_same : (a : Cost) → cost_cmp a a ≡ Equal
cost_cmp_same a = tied_itself cost_total a

-- one of two values is picked by any total order in which only equal values tie
module _ (R : Cost → Cost → Ordering) (t : IsTotalOrder R) (exact : (a b : Cost) → R a b ≡ Equal → a ≡ b) where
  pick_comm : (a b : Cost) → ranked (R a b) a b ≡ ranked (R b a) b a
  pick_comm a b = grind (arith, t.antisymm a b, t.antisymm b a, exact a b, exact b a)

  pick_assoc : (a b c : Cost) → ranked (R (ranked (R a b) a b) c) (ranked (R a b) a b) c ≡ ranked (R a (ranked (R b c) b c)) a (ranked (R b c) b c)
  pick_assoc a b c = grind (arith, t.trans a b c, t.trans c b a, t.trans a c b, t.trans b a c, t.trans b c a, t.trans c a b, t.antisymm a b, t.antisymm b a, t.antisymm b c, t.antisymm c b, t.antisymm a c, t.antisymm c a, exact a b, exact b c, exact a c, exact b a, exact c b, exact c a)

  other_assoc : (a b c : Cost) → ranked (R (ranked (R a b) b a) c) c (ranked (R a b) b a) ≡ ranked (R a (ranked (R b c) c b)) (ranked (R b c) c b) a
  other_assoc a b c = grind (arith, t.trans a b c, t.trans c b a, t.trans a c b, t.trans b a c, t.trans b c a, t.trans c a b, t.antisymm a b, t.antisymm b a, t.antisymm b c, t.antisymm c b, t.antisymm a c, t.antisymm c a, exact a b, exact b c, exact a c, exact b a, exact c b, exact c a)

  other_comm : (a b : Cost) → ranked (R a b) b a ≡ ranked (R b a) a b
  other_comm a b = grind (arith, t.antisymm a b, t.antisymm b a, exact a b, exact b a)

  other_spreads : (a b c : Cost) → ranked (R a (ranked (R b c) b c)) (ranked (R b c) b c) a ≡ ranked (R (ranked (R a b) b a) (ranked (R a c) c a)) (ranked (R a b) b a) (ranked (R a c) c a)
  other_spreads a b c = grind (arith, t.trans a b c, t.trans c b a, t.trans a c b, t.trans b a c, t.trans b c a, t.trans c a b, t.antisymm a b, t.antisymm b a, t.antisymm b c, t.antisymm c b, t.antisymm a c, t.antisymm c a, exact a b, exact b c, exact a c, exact b a, exact c b, exact c a)

-- Plus is commutative
pub plus_comm : (a b : Cost) → plus a b ≡ plus b a
plus_comm a b = pick_comm cost_cmp cost_total cost_cmp_equal a b

-- Plus is associative
pub plus_assoc : (a b c : Cost) → plus (plus a b) c ≡ plus a (plus b c)
plus_assoc a b c = pick_assoc cost_cmp cost_total cost_cmp_equal a b c

-- Plus of a value and itself is that value
pub plus_same : (a : Cost) → plus a a ≡ a
plus_same a = by_order (cost_cmp a a)
  where
    by_order : (o : Ordering) → ranked o a a ≡ a
    by_order Less = refl
    by_order Equal = refl
    by_order Greater = refl

-- the better and the worse of two are one of them
picks : (o : Ordering) (a b : Cost) → ((ranked o a b ≡ a) ⊎ (ranked o a b ≡ b)) × ((ranked o b a ≡ a) ⊎ (ranked o b a ≡ b))
picks Less a b = (inl refl, inr refl)
picks Equal a b = (inl refl, inr refl)
picks Greater a b = (inr refl, inl refl)

-- Plus is one of the two: the path property
pub plus_picks : (a b : Cost) → (plus a b ≡ a) ⊎ (plus a b ≡ b)
plus_picks a b = (picks (cost_cmp a b) a b).0

-- Zero is neutral in Plus
pub plus_infinite : (a : Cost) → plus a infinite ≡ a
plus_infinite best = refl
plus_infinite (finite a b) = refl
plus_infinite infinite = refl

-- Plus is the first where that is better, or as good
pub plus_less : (a b : Cost) → cost_cmp a b ≡ Less → plus a b ≡ a
plus_less a b e = ap (λ o. ranked o a b) e

-- where Plus is the first, the second is not better
pub plus_least : (a b : Cost) → plus a b ≡ a → cost_cmp b a ≡ Less → ⊥
plus_least a b e less =
    let swapped : a ≡ b = sym e ∙ (plus_comm a b ∙ plus_less b a less) in
    let tied : Less ≡ Equal = sym less ∙ (ap (λ z. cost_cmp b z) swapped ∙ cost_cmp_same b) in
    cc

-- where the second is not better, Plus is the first
pub plus_unless : (a b : Cost) → (cost_cmp b a ≡ Less → ⊥) → plus a b ≡ a
plus_unless a b no_better = by_order (cost_cmp b a) refl
  where
    by_order : (o : Ordering) → cost_cmp b a ≡ o → plus a b ≡ a
    by_order Less e = absurd (no_better e)
    by_order Equal e = let same : b ≡ a = cost_cmp_equal b a e in ap (λ z. plus a z) same ∙ plus_same a
    by_order Greater e = plus_less a b (cost_total.antisymm a b ∙ ap ordering_reverse e)

-- not being better is transitive
pub plus_trans : (a b c : Cost) → plus a b ≡ a → plus b c ≡ b → plus a c ≡ a
plus_trans a b c e f = ap (λ z. plus z c) (sym e) ∙ (plus_assoc a b c ∙ (ap (λ z. plus a z) f ∙ e))

-- two values neither of which betters the other are one value
pub plus_antisym : (a b : Cost) → plus a b ≡ a → plus b a ≡ b → a ≡ b
plus_antisym a b e f = sym e ∙ (plus_comm a b ∙ f)

-- the worse of two: commutative, associative, and it distributes over Plus
pub worse_comm : (a b : Cost) → worse a b ≡ worse b a
worse_comm a b = other_comm cost_cmp cost_total cost_cmp_equal a b

pub worse_assoc : (a b c : Cost) → worse (worse a b) c ≡ worse a (worse b c)
worse_assoc a b c = other_assoc cost_cmp cost_total cost_cmp_equal a b c

pub worse-plus : (a b c : Cost) → worse a (plus b c) ≡ plus (worse a b) (worse a c)
worse-plus a b c = other_spreads cost_cmp cost_total cost_cmp_equal a b c

pub worse_best : (a : Cost) → worse best a ≡ a
worse_best best = refl
worse_best (finite a b) = refl
worse_best infinite = refl

pub worse_infinite : (a : Cost) → worse infinite a ≡ infinite
worse_infinite best = refl
worse_infinite (finite a b) = refl
worse_infinite infinite = refl

pub worse_picks : (a b : Cost) → (worse a b ≡ a) ⊎ (worse a b ≡ b)
worse_picks a b = (picks (cost_cmp a b) a b).1
