-- What a claim has seen.
use Rattle.std.proofs.Common.{◌≡◌, ◌≢◌, ⊎_elim, ℕ, zero, suc, ◌<◌, ◌≤◌, List, [], ◌∷◌, ◌++◌, Some, length, slice_get, length-append, refl, sym, ap, ◌∙◌, subst, arith}
use Rattle.std.specs.List.{Contains}
use Rattle.std.proofs.lemmas.Bool.{cases_lt}
use Rattle.std.proofs.lemmas.List.Elements.{Contains-append_right}
use Rattle.std.proofs.lemmas.Option.{get_or_from_slice_get, slice_get_within}
use Rattle.fst_claims.specs.declared.view.View.{View}
use Rattle.fst_claims.specs.Rule.{place_of}
use Rattle.fst_claims.specs.Claimed.{HasFound, Passed}
use Rattle.fst_claims.proofs.Places.{place-onto}

get_left : {X : Type 0} (xs ys : List X) (j : ℕ) (x : X) → slice_get xs j ≡ Some x → slice_get (xs ++ ys) j ≡ Some x
get_left [] ys j x e = absurd (cc)
get_left (z ∷ xs) ys zero x e = e
get_left (z ∷ xs) ys (suc j) x e = get_left xs ys j x e

get_last : {X : Type 0} (xs : List X) (x : X) → slice_get (xs ++ x ∷ []) (length xs) ≡ Some x
get_last [] x = refl
get_last (z ∷ xs) x = get_last xs x

is_seen : (seen : List (ℕ × ℕ)) (j : ℕ) (x : ℕ × ℕ) → slice_get seen j ≡ Some x → Contains seen x
is_seen seen j x e = (j, slice_get_within seen j x e, get_or_from_slice_get seen j x x e)

module _ (p code : ℕ) (seen : List (ℕ × ℕ)) (passed : Passed p code seen) where
  pub passed_found : (old : List (ℕ × ℕ)) (v : View) → v.found ≡ old ++ seen → (k : ℕ) → length seen ≡ k → HasFound p code k v
  passed_found old v grown k count j before =
      let w = passed j (omega (arith, before, count)) in
      (w.0, subst (λ (xs : List (ℕ × ℕ)). Contains xs (place_of p code j, w.0)) (sym grown) (Contains-append_right old seen (place_of p code j, w.0) (is_seen seen j (place_of p code j, w.0) w.1)), w.2)

  pub passed_more : (k d : ℕ) → length seen ≡ k → d ≢ code → Passed p code (seen ++ (place_of p code k, d) ∷ [])
  passed_more k d count other j within = ⊎_elim
      (λ (old : j < length seen). let w = passed j old in (w.0, get_left seen ((place_of p code k, d) ∷ []) j (place_of p code j, w.0) w.1, w.2))
      (λ (new : length seen ≤ j).
      let last : length seen ≡ j = omega (arith, new, within, length-append seen ((place_of p code k, d) ∷ [])) in
      let same : k ≡ j = sym count ∙ last in (
        d,
        subst (λ (i : ℕ). slice_get (seen ++ (place_of p code k, d) ∷ []) i ≡ Some (place_of p code i, d)) last
            (get_last seen (place_of p code k, d) ∙ ap (λ (i : ℕ). Some (place_of p code i, d)) (sym count)),
        other,
      ))
      (cases_lt j (length seen))

  pub everywhere : length seen ≡ p → (i : ℕ) → i < p → (d : ℕ) × Contains seen (i, d) × (d ≢ code)
  everywhere whole i within =
      let at = place-onto p code i (omega arith) within in
      let w = passed at.0 (omega (arith, whole, at.1)) in
      (w.0, subst (λ (j : ℕ). Contains seen (j, w.0)) at.2 (is_seen seen at.0 (place_of p code at.0, w.0) w.1), w.2)
