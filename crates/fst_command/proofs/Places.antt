-- A list that is gone over by places, seen by a function.
use Rattle.std.proofs.Common.{◌≡◌, ℕ, zero, suc, ◌+◌, ◌<◌, ◌≤◌, List, [], ◌∷◌, ◌++◌, length, map, take, drop, get_or, refl, sym, ap, ◌∙◌, arith}

next_by : {X Y : Type 0} (f : X → Y) (xs : List X) (n : ℕ) (x : X) → n < length xs → x ≡ get_or xs n x → take (suc n) (map f xs) ≡ take n (map f xs) ++ f x ∷ []
next_by f [] n x few at = absurd (omega (arith, few))
next_by f (y ∷ xs) zero x few at = ap (λ z. f z ∷ []) (sym at)
next_by f (y ∷ xs) (suc n) x few at = ap (λ ys. f y ∷ ys) (next_by f xs n x (omega (arith, few)) at)

-- one place further
pub taken_next : {X Y : Type 0} (f : X → Y) (xs : List X) (n : ℕ) (x : X) → n < length xs → x ≡ get_or xs n x → take (n + 1) (map f xs) ≡ take n (map f xs) ++ f x ∷ []
taken_next f xs n x few at = let one : n + 1 ≡ suc n = omega arith in ap (λ k. take k (map f xs)) one ∙ next_by f xs n x few at

-- the whole, at a place
pub parted : {X Y : Type 0} (f : X → Y) (xs : List X) (n : ℕ) (x : X) → n < length xs → x ≡ get_or xs n x → map f xs ≡ take n (map f xs) ++ f x ∷ drop (suc n) (map f xs)
parted f [] n x few at = absurd (omega (arith, few))
parted f (y ∷ xs) zero x few at = ap (λ z. f z ∷ map f xs) (sym at)
parted f (y ∷ xs) (suc n) x few at = ap (λ ys. f y ∷ ys) (parted f xs n x (omega (arith, few)) at)

-- at the end
pub taken_past : {X Y : Type 0} (f : X → Y) (xs : List X) (n : ℕ) → length xs ≤ n → take n (map f xs) ≡ map f xs
taken_past f [] zero few = refl
taken_past f [] (suc n) few = refl
taken_past f (x ∷ xs) zero few = absurd (omega (arith, few))
taken_past f (x ∷ xs) (suc n) few = ap (λ ys. f x ∷ ys) (taken_past f xs n (omega (arith, few)))
