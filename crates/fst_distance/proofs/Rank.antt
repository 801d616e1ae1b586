-- The rank of a value among finitely many: how many of them are better.
use Rattle.std.proofs.Common.{◌≡◌, ◌⊎◌, inl, inr, ℕ, ◌+◌, ◌<◌, ◌≤◌, zero, suc, Ordering, Less, Equal, Greater, sym, refl, ap, ◌∙◌, arith}
use Rattle.std.proofs.lemmas.Bool.{cases_lt}
use Rattle.fst_semiring.specs.Cost.{Cost, cost_cmp, plus}
use Rattle.fst_semiring.proofs.Order.{cost_cmp_same, plus_less}
use Rattle.fst_distance.specs.PushLaws.{IsRank}
use Rattle.fst_distance.proofs.Normal.{better_then}

-- 1 where the order says Less
abbrev pub one_if_less : Ordering → ℕ
one_if_less Less = 1
one_if_less Equal = 0
one_if_less Greater = 0

-- how many of the first n values are better
abbrev pub better_count : (ℕ → Cost) → Cost → ℕ → ℕ
better_count d c zero = 0
better_count d c (suc n) = one_if_less (cost_cmp (d n) c) + better_count d c n

one_more : (a b c : Cost) → plus b c ≡ b → one_if_less (cost_cmp a b) ≤ one_if_less (cost_cmp a c)
one_more a b c h = by (cost_cmp a b) refl
  where
    by : (o : Ordering) → cost_cmp a b ≡ o → one_if_less o ≤ one_if_less (cost_cmp a c)
    by Less e = let same : one_if_less (cost_cmp a c) ≡ 1 = ap one_if_less (better_then a b c e h) in omega arith
    by Equal e = omega arith
    by Greater e = omega arith

pub count_more : (d : ℕ → Cost) (b c : Cost) (n : ℕ) → plus b c ≡ b → better_count d b n ≤ better_count d c n
count_more d b c zero h = omega arith
count_more d b c (suc n) h = let one = one_more (d n) b c h in let rest = count_more d b c n h in omega arith

-- a value that occurs has fewer better ones than a worse value
pub count_less : (d : ℕ → Cost) (q : ℕ) (c : Cost) (n : ℕ) → q < n → cost_cmp (d q) c ≡ Less → better_count d (d q) n < better_count d c n
count_less d q c zero low h = absurd (omega arith)
count_less d q c (suc n) low h = by (λ early. count_less d q c n early h) (cases_lt q n)
  where
    by : (q < n → better_count d (d q) n < better_count d c n) → (q < n) ⊎ (n ≤ q) → better_count d (d q) (suc n) < better_count d c (suc n)
    by fewer (inl early) = let one = one_more (d n) (d q) c (plus_less (d q) c h) in let rest = fewer early in omega arith
    by fewer (inr late) =
        let here : q ≡ n = omega arith in
        let none : one_if_less (cost_cmp (d n) (d q)) ≡ 0 = ap (λ k. one_if_less (cost_cmp (d k) (d q))) (sym here) ∙ ap one_if_less (cost_cmp_same (d q)) in
        let one : one_if_less (cost_cmp (d n) c) ≡ 1 = ap (λ k. one_if_less (cost_cmp (d k) c)) (sym here) ∙ ap one_if_less h in
        let rest = count_more d (d q) c n (plus_less (d q) c h) in
        omega arith

-- the rank of the values of n states
pub number_rank : (d : ℕ → Cost) (n : ℕ) → IsRank d (λ p. p < n) (λ p. better_count d (d p) n)
number_rank d n = record {
  better = λ p q low less h. count_less d p (d q) n low h;
  no_worse = λ p q low less h. count_more d (d p) (d q) n h;
}
