-- The order of words.
use Rattle.std.proofs.Common.{◌≡◌, ◌⊎◌, inl, inr, ℕ, ◌<◌, List, [], ◌∷◌, ◌++◌, refl, arith}
use Rattle.std.proofs.lemmas.List.{length-append}
use Rattle.fst_trim.specs.WordOrder.{IsLesser, IsSooner}

never_lesser : (x : List ℕ) → IsLesser x x → ⊥
never_lesser [] h = h
never_lesser (a ∷ x) (inl low) = absurd (omega (arith, low))
never_lesser (a ∷ x) (inr h) = never_lesser x h.1

lesser_once : (x y : List ℕ) → IsLesser x y → IsLesser y x → ⊥
lesser_once [] y h k = h
lesser_once (a ∷ x) [] h k = h
lesser_once (a ∷ x) (b ∷ y) (inl low) (inl high) = absurd (omega (arith, low, high))
lesser_once (a ∷ x) (b ∷ y) (inl low) (inr k) = let e = k.0 in absurd (omega (arith, low, e))
lesser_once (a ∷ x) (b ∷ y) (inr h) (inl high) = let e = h.0 in absurd (omega (arith, high, e))
lesser_once (a ∷ x) (b ∷ y) (inr h) (inr k) = lesser_once x y h.1 k.1

-- of two words only one is sooner
pub sooner_once : (x y : List ℕ) → IsSooner x y → IsSooner y x → ⊥
sooner_once x y (inl low) (inl high) = absurd (omega (arith, low, high))
sooner_once x y (inl low) (inr k) = let e = k.0 in absurd (omega (arith, low, e))
sooner_once x y (inr h) (inl high) = let e = h.0 in absurd (omega (arith, high, e))
sooner_once x y (inr h) (inr k) = lesser_once x y h.1 k.1

-- the empty word comes first
pub empty_first : (y : List ℕ) → ([] ≡ y) ⊎ IsSooner [] y
empty_first [] = inl refl
empty_first (b ∷ y) = inr (inl (omega arith))

lesser_push : (x y : List ℕ) (a b : ℕ) → IsLesser x y → IsLesser (x ++ a ∷ []) (y ++ b ∷ [])
lesser_push [] y a b h = absurd h
lesser_push (c ∷ x) [] a b h = absurd h
lesser_push (c ∷ x) (d ∷ y) a b (inl low) = inl low
lesser_push (c ∷ x) (d ∷ y) a b (inr h) = inr (h.0, lesser_push x y a b h.1)

lesser_last : (x : List ℕ) (a b : ℕ) → a < b → IsLesser (x ++ a ∷ []) (x ++ b ∷ [])
lesser_last [] a b low = inl low
lesser_last (c ∷ x) a b low = inr (refl, lesser_last x a b low)

-- a label more behind words in order, and behind one word
pub sooner_push : (x y : List ℕ) (a b : ℕ) → IsSooner x y → IsSooner (x ++ a ∷ []) (y ++ b ∷ [])
sooner_push x y a b (inl low) = inl (omega (arith, low, length-append x (a ∷ []), length-append y (b ∷ [])))
sooner_push x y a b (inr h) = let e = h.0 in inr (omega (arith, e, length-append x (a ∷ []), length-append y (b ∷ [])), lesser_push x y a b h.1)

pub sooner_last : (x : List ℕ) (a b : ℕ) → a < b → IsSooner (x ++ a ∷ []) (x ++ b ∷ [])
sooner_last x a b low = inr (omega (arith, length-append x (a ∷ []), length-append x (b ∷ [])), lesser_last x a b low)
