-- Numbers that are tied to fewer, no two to the same one, are no more than these.
use Rattle.std.proofs.Common.{◌≡◌, inl, inr, ℕ, ◌<◌, ◌≤◌, zero, suc, List, [], ◌∷◌, length, refl, ap, subst, arith}
use Rattle.fst_machine.specs.BreadthFirst.{Has, Apart}
use Rattle.fst_machine.proofs.Elements.{Apart_below}

module _ (n m : ℕ) (R : ℕ → ℕ → Type 0) (some : (i : ℕ) → i < n → (r : ℕ) × (r < m) × R i r) (once : (i j r : ℕ) → i < n → j < n → R i r → R j r → i ≡ j) where
  -- Different numbers below m to which the numbers below k are tied.
  record Chosen (k : ℕ) : Type 0 where
    list : List ℕ
    size : length list ≡ k
    apart : Apart list
    from : (r : ℕ) → Has list r → (i : ℕ) × (i < k) × (r < m) × R i r

  chosen : (k : ℕ) → k ≤ n → Chosen k
  chosen zero low = record { list = []; size = refl; apart = tt; from = (λ r h. absurd h) }
  chosen (suc k) low =
      let before = chosen k (omega arith) in
      let lt : k < n = omega arith in
      let new = some k lt in
      record {
        list = new.0 ∷ before.list;
        size = ap suc before.size;
        apart = ((λ h. let o = before.from new.0 h in let below : o.0 < n = let l = o.1 in omega arith in let same : k ≡ o.0 = once k o.0 new.0 lt below new.2 o.3 in let l = o.1 in omega arith), before.apart);
        from = from new before;
      }
    where
      from : (new : (r : ℕ) × (r < m) × R k r) (before : Chosen k) (r : ℕ) → Has (new.0 ∷ before.list) r → (i : ℕ) × (i < suc k) × (r < m) × R i r
      from new before r (inl e) = (k, omega arith, subst (λ (q : ℕ). q < m) e new.1, subst (λ q. R k q) e new.2)
      from new before r (inr h) = let o = before.from r h in let l = o.1 in (o.0, omega arith, o.2, o.3)

  pub few : n ≤ m
  few =
      let all = chosen n (omega arith) in
      let low : length all.list ≤ m = Apart_below m all.list all.apart (λ r h. (all.from r h).2) in
      let size = all.size in
      omega arith
