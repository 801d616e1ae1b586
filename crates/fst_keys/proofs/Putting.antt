-- A key that is put after others, or is one of them.
use Rattle.std.proofs.Common.{◌≡◌, ◌⊎◌, inl, inr, ℕ, zero, suc, Bool, true, false, not, List, [], ◌∷◌, ◌++◌, Some, if◌then◌else◌, length, slice_get, refl, sym, ap, ◌∙◌, ◌||◌}
use Rattle.std.specs.Bool.{Decides}
use Rattle.std.specs.List.{list_any}
use Rattle.fst_keys.specs.Keys.{IsNew, with_key}

-- an element of the first of two lists keeps its place
pub at_front : {X : Type 0} (xs ys : List X) (k : ℕ) (x : X) → slice_get xs k ≡ Some x → slice_get (xs ++ ys) k ≡ Some x
at_front [] ys k x e = absurd (cc)
at_front (z ∷ xs) ys zero x e = e
at_front (z ∷ xs) ys (suc k) x e = at_front xs ys k x e

-- the one that is put stands last
pub at_last : {X : Type 0} (xs : List X) (x : X) → slice_get (xs ++ x ∷ []) (length xs) ≡ Some x
at_last [] x = refl
at_last (z ∷ xs) x = at_last xs x

-- and there is no other than these
pub at_either : {X : Type 0} (xs : List X) (x : X) (k : ℕ) (y : X) → slice_get (xs ++ x ∷ []) k ≡ Some y → (slice_get xs k ≡ Some y) ⊎ ((k ≡ length xs) × (y ≡ x))
at_either [] x zero y e = inr (refl, (cc))
at_either [] x (suc k) y e = absurd (cc)
at_either (z ∷ xs) x zero y e = inl e
at_either {X} (z ∷ xs) x (suc k) y e = by (at_either xs x k y e)
  where
    by : (slice_get xs k ≡ Some y) ⊎ ((k ≡ length xs) × (y ≡ x)) → (slice_get (z ∷ xs) (suc k) ≡ Some y) ⊎ ((suc k ≡ length (z ∷ xs)) × (y ≡ x))
    by (inl h) = inl h
    by (inr h) = inr (ap suc h.0, h.1)

module _ {K : Type 0} (eq : K → K → Bool) (same : (a b : K) → Decides (eq a b) (a ≡ b)) where
  -- a key that stands in a place is one of the keys
  pub there_any : (keys : List K) (key : K) (p : ℕ) → slice_get keys p ≡ Some key → list_any (eq key) keys ≡ true
  there_any [] key p e = absurd (cc)
  there_any (z ∷ keys) key zero e = let one : key ≡ z = cc in ap (λ b. b || list_any (eq key) keys) ((same key z).1 one)
  there_any (z ∷ keys) key (suc p) e = by (eq key z) (there_any keys key p e)
    where
      by : (b : Bool) → list_any (eq key) keys ≡ true → (b || list_any (eq key) keys) ≡ true
      by true e = refl
      by false e = e

  -- and one that stands nowhere is not
  pub new_any : (keys : List K) (key : K) → IsNew keys key → list_any (eq key) keys ≡ false
  new_any [] key new = refl
  new_any (z ∷ keys) key new = by (eq key z) refl (new_any keys key (λ i there. new (suc i) there))
    where
      by : (b : Bool) → eq key z ≡ b → list_any (eq key) keys ≡ false → list_any (eq key) (z ∷ keys) ≡ false
      by true e rest = absurd (new 0 (ap Some (sym ((same key z).0 e))))
      by false e rest = ap (λ b. b || list_any (eq key) keys) e ∙ rest

  -- a key that is one of them leaves them as they are
  module _ (old : List K) (key : K) (p : ℕ) (there : slice_get old p ≡ Some key) where
    pub there_keys : old ≡ with_key eq old key
    there_keys = sym (ap (λ b. if b then old else old ++ key ∷ []) (there_any old key p there))

    pub there_added : false ≡ not (list_any (eq key) old)
    there_added = sym (ap not (there_any old key p there))

  -- one that is new stands last
  module _ (old new : List K) (key : K) (fresh : IsNew old key) where
    pub put_keys : new ≡ old ++ key ∷ [] → new ≡ with_key eq old key
    put_keys put = put ∙ sym (ap (λ b. if b then old else old ++ key ∷ []) (new_any old key fresh))

    pub put_added : true ≡ not (list_any (eq key) old)
    put_added = sym (ap not (new_any old key fresh))

pub put_there : {K : Type 0} (old new : List K) (key : K) (place : ℕ) → new ≡ old ++ key ∷ [] → place ≡ length old → slice_get new place ≡ Some key
put_there old new key place put there = ap (λ ks. slice_get ks place) put ∙ (ap (slice_get (old ++ key ∷ [])) there ∙ at_last old key)
