-- Entries found by their keys.
use Rattle.std.proofs.Common.{◌≡◌, inl, inr, ◌≤◌, ◌+◌, ℕ, zero, suc, Bool, true, false, List, [], ◌∷◌, ◌++◌, Some, All, length, map, option_map, slice_get, refl, sym, ap, subst, ◌∙◌, true≢false, if◌then◌else◌, arith}
use Rattle.std.specs.Bool.{Decides}
use Rattle.std.specs.List.{list_any}
use Rattle.std.proofs.lemmas.List.{length-append, map-append}
use Rattle.std.proofs.lemmas.List.Elements.{All-push}
use Rattle.fst_keys.specs.Keys.{with_key}
use Rattle.fst_machine.specs.BreadthFirst.{Has, Grows}
use Rattle.fst_machine.proofs.Elements.{any-Has, Has-any}

module _ {K : Type 0} (eq : K → K → Bool) (same : (x y : K) → Decides (eq x y) (x ≡ y)) where
  -- the keys with one more, where it was new
  pub grows_by : (ks new : List K) (k : K) → new ≡ with_key eq ks k → Grows ks (k ∷ []) new
  grows_by ks new k put = by (list_any (eq k) ks) refl
    where
      by : (b : Bool) → list_any (eq k) ks ≡ b → Grows ks (k ∷ []) new
      by true e = inl (any-Has eq same ks k e, sym (put ∙ ap (λ c. if c then ks else ks ++ k ∷ []) e))
      by false e = inr ((λ h. true≢false (sym (Has-any eq same ks k h) ∙ e)), sym (put ∙ ap (λ c. if c then ks else ks ++ k ∷ []) e))

-- what holds of all elements, and how many they are
pub grows_all : {X : Type 0} (P : X → Type 0) (xs new : List X) (x : X) → Grows xs (x ∷ []) new → All P xs → P x → All P new
grows_all P xs new x (inl old) all own = subst (All P) old.1 all
grows_all P xs new x (inr fresh) all own = subst (All P) fresh.1 (All-push P xs x all own)

pub grows_few : {X : Type 0} (xs new : List X) (x : X) → Grows xs (x ∷ []) new → length new ≤ length xs + 1
grows_few xs new x (inl old) = omega (arith, ap length old.1)
grows_few xs new x (inr fresh) = omega (arith, ap length fresh.1, length-append xs (x ∷ []))

module _ {X Y : Type 0} (f : X → Y) where
  pub at_mapped : (xs : List X) (k : ℕ) (x : X) → slice_get xs k ≡ Some x → slice_get (map f xs) k ≡ Some (f x)
  at_mapped [] k x e = absurd (cc)
  at_mapped (z ∷ xs) zero x e = ap (option_map f) e
  at_mapped (z ∷ xs) (suc k) x e = at_mapped xs k x e

  Has_mapped : (xs : List X) (x : X) → Has xs x → Has (map f xs) (f x)
  Has_mapped [] x h = absurd h
  Has_mapped (z ∷ xs) x (inl e) = inl (ap f e)
  Has_mapped (z ∷ xs) x (inr h) = inr (Has_mapped xs x h)

  -- where no two elements have one image
  module _ (one : (x y : X) → f x ≡ f y → x ≡ y) where
    mapped_Has : (xs : List X) (x : X) → Has (map f xs) (f x) → Has xs x
    mapped_Has [] x h = absurd h
    mapped_Has (z ∷ xs) x (inl e) = inl (one z x e)
    mapped_Has (z ∷ xs) x (inr h) = inr (mapped_Has xs x h)

    pub grows_mapped : (xs new : List X) (x : X) → Grows xs (x ∷ []) new → Grows (map f xs) (f x ∷ []) (map f new)
    grows_mapped xs new x (inl old) = inl (Has_mapped xs x old.0, ap (map f) old.1)
    grows_mapped xs new x (inr fresh) = inr ((λ h. fresh.0 (mapped_Has xs x h)), sym (map-append f xs (x ∷ [])) ∙ ap (map f) fresh.1)
