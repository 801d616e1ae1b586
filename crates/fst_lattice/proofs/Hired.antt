-- Workers that are hired.
use Rattle.std.proofs.Common.{◌≡◌, ◌⊎◌, inl, inr, ℕ, zero, suc, ◌+◌, Bool, List, [], ◌∷◌, ◌++◌, Some, length, slice_get, refl, sym, ap, ◌∙◌, subst, arith}
use Rattle.std.specs.Prelude.{sum_by}
use Rattle.std.proofs.lemmas.List.Sums.{sum_by-cons}
use Rattle.fst_machine.proofs.Arcs.{append_at}
use Rattle.fst_lattice.specs.Phases.{Laborer}
use Rattle.fst_lattice.specs.Runs.{IsNew}

one : {X : Type 0} (a b : X) → Some a ≡ Some b → a ≡ b
one a b e = cc

-- what holds of each before one more, and of that
pub each_more : {X : Type 0} (P : X → Type 0) (xs ys : List X) (x : X) → ys ≡ xs ++ x ∷ [] → ((k : ℕ) (w : X) → slice_get xs k ≡ Some w → P w) → P x → (k : ℕ) (w : X) → slice_get ys k ≡ Some w → P w
each_more {X} P xs ys x grown each here k w at = by (append_at xs (x ∷ []) k w (ap (λ zs. slice_get zs k) (sym grown) ∙ at))
  where
    last : (j : ℕ) → slice_get (x ∷ []) j ≡ Some w → x ≡ w
    last zero e = one x w e
    last (suc j) e = absurd (cc)

    by : (slice_get xs k ≡ Some w) ⊎ ((j : ℕ) × (slice_get (x ∷ []) j ≡ Some w) × (k ≡ length xs + j)) → P w
    by (inl e) = each k w e
    by (inr (j, e, place)) = subst P (last j e) here

module _ {V M : Type 0} (count : M → ℕ) (is_part : M → Bool) where
  pub new_more : (ws new : List (Laborer V M)) (w : Laborer V M) → new ≡ ws ++ w ∷ [] → ((k : ℕ) (v : Laborer V M) → slice_get ws k ≡ Some v → IsNew count is_part v) → IsNew count is_part w
      → (k : ℕ) (v : Laborer V M) → slice_get new k ≡ Some v → IsNew count is_part v
  new_more ws new w grown each here = each_more (IsNew count is_part) ws new w grown each here

  -- new workers have counted nothing together
  pub none_counted : (ws : List (Laborer V M)) → ((k : ℕ) (v : Laborer V M) → slice_get ws k ≡ Some v → IsNew count is_part v) → sum_by (λ (w : Laborer V M). count w.meter) ws ≡ 0
  none_counted [] each = refl
  none_counted (w ∷ ws) each = let first = (each 0 w refl).none in let rest = none_counted ws (λ k v at. each (suc k) v at) in omega (arith, first, rest, sum_by-cons (λ (x : Laborer V M). count x.meter) w ws)
