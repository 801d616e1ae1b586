-- The names of outputs, by their places.
use Rattle.std.proofs.Common.{◌≡◌, ℕ, List, [], ◌∷◌, length, Some, slice_get, ap, arith, ◌∙◌}

some_same : {X : Type 0} (x y : X) → Some x ≡ Some y → x ≡ y
some_same x y e = cc

pub only_one : (xs : List (List ℕ)) (x : List ℕ) → length xs ≡ 1 → slice_get xs 0 ≡ Some x → xs ≡ x ∷ []
only_one [] x size at = absurd (omega (arith, size))
only_one (a ∷ []) x size at = ap (λ y. y ∷ []) (some_same a x at)
only_one (a ∷ b ∷ xs) x size at = absurd (omega (arith, size))

pub only_two : (xs : List (List ℕ)) (x y : List ℕ) → length xs ≡ 2 → slice_get xs 0 ≡ Some x → slice_get xs 1 ≡ Some y → xs ≡ x ∷ y ∷ []
only_two [] x y size at next = absurd (omega (arith, size))
only_two (a ∷ []) x y size at next = absurd (omega (arith, size))
only_two (a ∷ b ∷ []) x y size at next = ap (λ z. z ∷ b ∷ []) (some_same a x at) ∙ ap (λ z. x ∷ z ∷ []) (some_same b y next)
only_two (a ∷ b ∷ c ∷ xs) x y size at next = absurd (omega (arith, size))
