-- The elements of a list that pass a test, by how many pass before them.
use Rattle.std.proofs.Common.{◌≡◌, ℕ, zero, suc, Bool, true, false, cond, not, ◌&&◌, List, [], ◌∷◌, Some, filter, length, nat_eq, take, slice_get, is_lt, nat_cmp, refl, sym, ap, ◌∙◌, arith}
use Rattle.std.proofs.lemmas.Bool.{eq-eqb, ne_eqb}
use Rattle.std.specs.Cmp.{nat_cmp_is}
use Rattle.std.specs.declared.cmp.Ordering.TheVariants.{Equal}
use Rattle.std.proofs.lemmas.Map.Keys.{ge_from_not_lt}

-- how many pass before a place
abbrev pub rank : {X : Type 0} → (X → Bool) → List X → ℕ → ℕ
rank p xs k = length (filter p (take k xs))

-- one that passes stands among those that pass, by its rank
pub rank_at : {X : Type 0} (p : X → Bool) (xs : List X) (k : ℕ) (x : X) → slice_get xs k ≡ Some x → p x ≡ true → slice_get (filter p xs) (rank p xs k) ≡ Some x
rank_at p [] k x there passes = absurd (cc)
rank_at p (y ∷ xs) zero x there passes =
    let same : y ≡ x = cc in
    let here : p y ≡ true = ap p same ∙ passes in
    ap (λ (b : Bool). slice_get (cond b (y ∷ filter p xs) (filter p xs)) 0) here ∙ ap Some same
rank_at {X} p (y ∷ xs) (suc k) x there passes = by_test (p y) (rank_at p xs k x there passes)
  where
    by_test : (b : Bool) → slice_get (filter p xs) (rank p xs k) ≡ Some x → slice_get (cond b (y ∷ filter p xs) (filter p xs)) (length (cond b (y ∷ filter p (take k xs)) (filter p (take k xs)))) ≡ Some x
    by_test true rest = rest
    by_test false rest = rest

-- and each of those that pass comes from a place with its rank
pub rank_from : {X : Type 0} (p : X → Bool) (xs : List X) (n : ℕ) (x : X) → slice_get (filter p xs) n ≡ Some x → (k : ℕ) × (slice_get xs k ≡ Some x) × (rank p xs k ≡ n)
rank_from p [] n x there = absurd (cc)
rank_from {X} p (y ∷ xs) n x there = by_test (p y) refl n there (λ i more. rank_from p xs i x more)
  where
    by_test : (b : Bool) → p y ≡ b → (n : ℕ) → slice_get (cond b (y ∷ filter p xs) (filter p xs)) n ≡ Some x → ((i : ℕ) → slice_get (filter p xs) i ≡ Some x → (k : ℕ) × (slice_get xs k ≡ Some x) × (rank p xs k ≡ i)) → (k : ℕ) × (slice_get (y ∷ xs) k ≡ Some x) × (rank p (y ∷ xs) k ≡ n)
    by_test true e zero there rest = (0, there, refl)
    by_test true e (suc n) there rest = let r = rest n there in (suc r.0, r.1, ap (λ (b : Bool). length (cond b (y ∷ filter p (take r.0 xs)) (filter p (take r.0 xs)))) e ∙ ap suc r.2)
    by_test false e n there rest = let r = rest n there in (suc r.0, r.1, ap (λ (b : Bool). length (cond b (y ∷ filter p (take r.0 xs)) (filter p (take r.0 xs)))) e ∙ r.2)

-- two that pass with one rank stand in one place
pub rank_once : {X : Type 0} (p : X → Bool) (xs : List X) (i j : ℕ) (x y : X) → slice_get xs i ≡ Some x → slice_get xs j ≡ Some y → p x ≡ true → p y ≡ true → rank p xs i ≡ rank p xs j → i ≡ j
rank_once p [] i j x y one two first second same = absurd (cc)
rank_once p (z ∷ xs) zero zero x y one two first second same = refl
rank_once p (z ∷ xs) zero (suc j) x y one two first second same =
    let here : z ≡ x = cc in
    let counts : rank p (z ∷ xs) (suc j) ≡ suc (rank p xs j) = ap (λ (b : Bool). length (cond b (z ∷ filter p (take j xs)) (filter p (take j xs)))) (ap p here ∙ first) in
    let wrong : 0 ≡ suc (rank p xs j) = same ∙ counts in
    absurd (cc)
rank_once p (z ∷ xs) (suc i) zero x y one two first second same =
    let here : z ≡ y = cc in
    let counts : rank p (z ∷ xs) (suc i) ≡ suc (rank p xs i) = ap (λ (b : Bool). length (cond b (z ∷ filter p (take i xs)) (filter p (take i xs)))) (ap p here ∙ second) in
    let wrong : suc (rank p xs i) ≡ 0 = sym counts ∙ same in
    absurd (cc)
rank_once {X} p (z ∷ xs) (suc i) (suc j) x y one two first second same = by_test (p z) refl (λ e. rank_once p xs i j x y one two first second e)
  where
    by_test : (b : Bool) → p z ≡ b → (rank p xs i ≡ rank p xs j → i ≡ j) → suc i ≡ suc j
    by_test true e rest =
        let left : rank p (z ∷ xs) (suc i) ≡ suc (rank p xs i) = ap (λ (b : Bool). length (cond b (z ∷ filter p (take i xs)) (filter p (take i xs)))) e in
        let right : rank p (z ∷ xs) (suc j) ≡ suc (rank p xs j) = ap (λ (b : Bool). length (cond b (z ∷ filter p (take j xs)) (filter p (take j xs)))) e in
        ap suc (rest (omega (arith, left, right, same)))
    by_test false e rest =
        let left : rank p (z ∷ xs) (suc i) ≡ rank p xs i = ap (λ (b : Bool). length (cond b (z ∷ filter p (take i xs)) (filter p (take i xs)))) e in
        let right : rank p (z ∷ xs) (suc j) ≡ rank p xs j = ap (λ (b : Bool). length (cond b (z ∷ filter p (take j xs)) (filter p (take j xs)))) e in
        ap suc (rest (sym left ∙ (same ∙ right)))

-- two keys tie where they are the same
pub ties_is : (m n : ℕ) → (not (is_lt (nat_cmp m n)) && not (is_lt (nat_cmp n m))) ≡ nat_eq n m
ties_is m n = by_tests (is_lt (nat_cmp m n)) (is_lt (nat_cmp n m)) refl refl
  where
    by_tests : (b c : Bool) → is_lt (nat_cmp m n) ≡ b → is_lt (nat_cmp n m) ≡ c → (not b && not c) ≡ nat_eq n m
    by_tests true c one two = sym (ne_eqb n m (λ e. let wrong : true ≡ false = sym one ∙ ap is_lt (sym (nat_cmp_is m n Equal (sym e))) in absurd (cc)))
    by_tests false true one two = sym (ne_eqb n m (λ e. let wrong : true ≡ false = sym two ∙ ap is_lt (sym (nat_cmp_is n m Equal e)) in absurd (cc)))
    by_tests false false one two = let high = ge_from_not_lt m n one in let low = ge_from_not_lt n m two in sym (eq-eqb n m (omega arith))
