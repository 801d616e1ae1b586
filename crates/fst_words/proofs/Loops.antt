-- Loops over lists.
use Rattle.std.proofs.Common.{◌≡◌, ◌∙◌, ◌<◌, ◌+◌, ◌-◌, ◌++◌, ◌||◌, ℕ, Bool, false, zero, suc, List, [], ◌∷◌, length, drop, Some, refl, ap, arith, get_or, replicate, append_assoc}
use Rattle.std.proofs.lemmas.List.{length_push}
use Rattle.std.specs.List.{find, list_any, slice_get}

-- a search goes on behind an element that does not pass
pub find_next : {X : Type 0} (p : X → Bool) (xs : List X) (i : ℕ) (d : X) → i < length xs → p (get_or xs i d) ≡ false
    → find p (drop i xs) ≡ find p (drop (i + 1) xs)
find_next p xs i d lt e =
    let next : i + 1 ≡ suc i = omega arith in
    rw next (go xs i lt e)
  where
    go : (ys : List _) (k : ℕ) → k < length ys → p (get_or ys k d) ≡ false → find p (drop k ys) ≡ find p (drop (suc k) ys)
    go [] k lt e = absurd (omega arith)
    go (y ∷ ys) zero lt e = rw e refl
    go (y ∷ ys) (suc k) lt e = go ys k (omega arith) e

-- one more of the copies that are wanted behind a list
pub copies_more : {X : Type 0} (xs : List X) (y : X) (count : ℕ) → length xs < count
    → (xs ++ y ∷ []) ++ replicate (count - length (xs ++ y ∷ [])) y ≡ xs ++ replicate (count - length xs) y
copies_more xs y count lt =
    let grown : length (xs ++ y ∷ []) ≡ length xs + 1 = length_push xs y in
    let wanted : count - length xs ≡ suc (count - length (xs ++ y ∷ [])) = omega arith in
    rw (append_assoc, wanted) refl

-- a place that has an element
pub behind : {X : Type 0} (xs : List X) (i : ℕ) (x : X) → slice_get xs i ≡ Some x → drop i xs ≡ x ∷ drop (i + 1) xs
behind xs i x at =
    let next : i + 1 ≡ suc i = omega arith in
    rw next (go xs i at)
  where
    go : (ys : List _) (k : ℕ) → slice_get ys k ≡ Some x → drop k ys ≡ x ∷ drop (suc k) ys
    go [] k e = cc
    go (y ∷ ys) zero e =
        let same : y ≡ x = cc in
        ap (λ z. z ∷ ys) same
    go (y ∷ ys) (suc k) e = go ys k e

-- a test of some element behind a place, by the element there
pub any_at : {X : Type 0} (p : X → Bool) (xs : List X) (i : ℕ) (x : X) (b : Bool) → slice_get xs i ≡ Some x → p x ≡ b
    → list_any p (drop i xs) ≡ (b || list_any p (drop (i + 1) xs))
any_at p xs i x b at test = ap (list_any p) (behind xs i x at) ∙ ap (λ (c : Bool). c || list_any p (drop (i + 1) xs)) test
