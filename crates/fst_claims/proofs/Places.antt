-- The places at which a search looks.
use Rattle.std.proofs.Common.{◌≡◌, ℕ, ◌+◌, ◌-◌, ◌%◌, ◌<◌, ◌≤◌, ⊎_elim, sym, ap, ◌∙◌, mod-lt, arith}
use Rattle.std.proofs.Math.Nat.{add-mod-mod, add-mod_left, mod-eq_of_lt}
use Rattle.std.proofs.lemmas.Bool.{cases_lt}
use Rattle.atomic_table.proofs.Lists.{one_turn}
use Rattle.fst_claims.specs.Rule.{place_of}

pub place-lt : (p c k : ℕ) → 0 < p → place_of p c k < p
place-lt p c k pos = mod-lt (c % p + k) pos

same_from : (p c j k : ℕ) → j ≤ k → k < p → place_of p c j ≡ place_of p c k → j ≡ k
same_from p c j k le lt e =
    let s : c % p + j ≡ c % p + k = one_turn (c % p + j) (c % p + k) p (omega arith) (omega arith) e in
    omega (arith, s)

pub place-same : (p c j k : ℕ) → j < p → k < p → place_of p c j ≡ place_of p c k → j ≡ k
place-same p c j k lt lt' e = ⊎_elim (λ (h : j < k). same_from p c j k (omega arith) lt' e) (λ (h : k ≤ j). sym (same_from p c k j h lt (sym e))) (cases_lt j k)

-- each place is some step of the search
pub place-onto : (p c i : ℕ) → 0 < p → i < p → (k : ℕ) × (k < p) × (place_of p c k ≡ i)
place-onto p c i pos lt =
    let r : ℕ = c % p in
    let low : r < p = mod-lt c pos in
    let away : ℕ = i + (p - r) in
    let round : r + away ≡ p + i = omega arith in
    (away % p, mod-lt away pos, add-mod-mod r away p ∙ (ap (λ (z : ℕ). z % p) round ∙ (add-mod_left p i ∙ mod-eq_of_lt lt)))
