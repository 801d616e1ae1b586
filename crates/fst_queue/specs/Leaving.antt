-- That a state that leaves a list at one of its ends is taken from it.
use Rattle.std.proofs.Common.{◌≡◌, ◌≢◌, ◌⊎◌, inl, inr, ℕ, List, [], ◌∷◌, ◌++◌, Some, sym, refl, subst}
use Rattle.fst_machine.specs.BreadthFirst.{Has, Apart}
use Rattle.fst_machine.proofs.Elements.{Has-append_left, Has-append_right}
use Rattle.fst_queue.specs.Members.{Takes}

-- one more element after the others
pub Has-push : {X : Type 0} (xs : List X) (y x : X) → Has (xs ++ y ∷ []) x → Has xs x ⊎ (x ≡ y)
Has-push [] y x (inl e) = inr (sym e)
Has-push [] y x (inr none) = absurd none
Has-push (z ∷ xs) y x (inl e) = inl (inl e)
Has-push {X} (z ∷ xs) y x (inr h) = by_rest (Has-push xs y x h)
  where
    by_rest : Has xs x ⊎ (x ≡ y) → Has (z ∷ xs) x ⊎ (x ≡ y)
    by_rest (inl r) = inl (inr r)
    by_rest (inr e) = inr e

-- without the last element
pub Apart-pop : {X : Type 0} (xs : List X) (x : X) → Apart (xs ++ x ∷ []) → Apart xs × (Has xs x → ⊥)
Apart-pop [] x apart = (tt, λ h. h)
Apart-pop {X} (z ∷ xs) x apart =
    let rest = Apart-pop xs x apart.1 in
    (((λ h. apart.0 (Has-append_left xs (x ∷ []) z h)), rest.0), λ h. none h rest.1)
  where
    none : Has (z ∷ xs) x → (Has xs x → ⊥) → ⊥
    none (inl e) absent = apart.0 (Has-append_right xs (x ∷ []) z (inl (sym e)))
    none (inr h) absent = absent h

-- the state that was put last leaves
pub popped_takes : (old new : List ℕ) (state : ℕ) → old ≡ new ++ state ∷ [] → Apart old → Apart new × Takes old (Some state) new
popped_takes old new state is apart =
    let rest = Apart-pop new state (subst (λ xs. Apart xs) is apart) in (
      rest.0,
      (
        subst (λ xs. Has xs state) (sym is) (Has-append_right new (state ∷ []) state (inl refl)),
        λ q. (
          (λ h. (subst (λ xs. Has xs q) (sym is) (Has-append_left new (state ∷ []) q h), λ e. rest.1 (subst (λ (n : ℕ). Has new n) e h))),
          λ h. still q h.1 (Has-push new state q (subst (λ xs. Has xs q) is h.0)),
        ),
      ),
    )
  where
    still : (q : ℕ) → q ≢ state → Has new q ⊎ (q ≡ state) → Has new q
    still q other (inl h) = h
    still q other (inr e) = absurd (other e)

-- the state that was put first leaves
pub first_takes : (old new : List ℕ) (state : ℕ) → old ≡ state ∷ new → Apart old → Apart new × Takes old (Some state) new
first_takes old new state is apart =
    let rest : Apart (state ∷ new) = subst (λ xs. Apart xs) is apart in (
      rest.1,
      (
        subst (λ xs. Has xs state) (sym is) (inl refl),
        λ q. (
          (λ h. (subst (λ xs. Has xs q) (sym is) (inr h), λ e. rest.0 (subst (λ (n : ℕ). Has new n) e h))),
          λ h. still q h.1 (subst (λ xs. Has xs q) is h.0),
        ),
      ),
    )
  where
    still : (q : ℕ) → q ≢ state → Has (state ∷ new) q → Has new q
    still q other (inl e) = absurd (other (sym e))
    still q other (inr h) = h
