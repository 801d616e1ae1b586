-- An element of a list that comes after no other.
use Rattle.std.proofs.Common.{◌≡◌, ◌⊎◌, inl, inr, ℕ, ◌+◌, ◌<◌, ◌≤◌, true, false, List, ◌∷◌, length, get_or, sym, ap, subst, ◌∙◌, arith}
use Rattle.std.specs.declared.cmp.Ordering.{Ordering}
use Rattle.std.specs.Cmp.{IsTotalOrder}
use Rattle.std.specs.Ordering.{is_gt, is_lt}
use Rattle.std.specs.List.{All, swap_remove}
use Rattle.std.specs.List.Sorted.{IsPermutation}
use Rattle.std.proofs.lemmas.Bool.{cases_lt}
use Rattle.std.proofs.lemmas.Cmp.{tied_itself}
use Rattle.std.proofs.lemmas.List.{get_or_default}
use Rattle.std.proofs.lemmas.List.Elements.{All-tail}
use Rattle.std.proofs.lemmas.List.Sorted.{All-permutation, IsPermutation-swap_remove}
use Rattle.fst_queue.specs.HeapOrder.{NotAfter}
use Rattle.fst_queue.proofs.HeapOrder.{before_NotAfter, not_before_NotAfter, NotAfter-trans}

module _ {X : Type 0} (R : X → X → Ordering) (total : IsTotalOrder R) (items : List X) where
  -- the element in this place comes after none of the first ones
  abbrev pub IsLeastOfFirst : ℕ → ℕ → Type 0
  IsLeastOfFirst n least = (j : ℕ) (d : X) → j < n → NotAfter R (get_or items least d) (get_or items j d)

  -- one more element comes before it, or does not
  pub least_new : (n least : ℕ) → ((d : X) → true ≡ is_lt (R (get_or items n d) (get_or items least d))) → IsLeastOfFirst n least → IsLeastOfFirst (n + 1) n
  least_new n least before h j d low = by (cases_lt j n)
    where
      first : NotAfter R (get_or items n d) (get_or items least d)
      first = before_NotAfter R total (get_or items n d) (get_or items least d) (before d)

      by : (j < n) ⊎ (n ≤ j) → NotAfter R (get_or items n d) (get_or items j d)
      by (inl earlier) = NotAfter-trans R total (get_or items n d) (get_or items least d) (get_or items j d) first (h j d earlier)
      by (inr last) =
          let same : n ≡ j = omega (arith, last, low) in
          subst (λ (i : ℕ). NotAfter R (get_or items n d) (get_or items i d)) same (ap is_gt (tied_itself total (get_or items n d)))

  pub least_kept : (n least : ℕ) → ((d : X) → false ≡ is_lt (R (get_or items n d) (get_or items least d))) → IsLeastOfFirst n least → IsLeastOfFirst (n + 1) least
  least_kept n least not_before h j d low = by (cases_lt j n)
    where
      by : (j < n) ⊎ (n ≤ j) → NotAfter R (get_or items least d) (get_or items j d)
      by (inl earlier) = h j d earlier
      by (inr last) =
          let same : n ≡ j = omega (arith, last, low) in
          subst (λ (i : ℕ). NotAfter R (get_or items least d) (get_or items i d)) same (not_before_NotAfter R total (get_or items n d) (get_or items least d) (not_before d))

  -- it is taken out
  pub least_taken : (least : ℕ) (x : X) (new : List X) → least < length items → x ≡ get_or items least x → new ≡ swap_remove items least x → IsPermutation items (x ∷ new)
  least_taken least x new within is cut = subst (λ (l : List X). IsPermutation items (x ∷ l)) (sym cut) (IsPermutation-swap_remove items least x within is)

  pub least_first : (least n : ℕ) (x : X) (new : List X) → least < length items → x ≡ get_or items least x → new ≡ swap_remove items least x → length items ≤ n → IsLeastOfFirst n least
      → All (NotAfter R x) new
  least_first least n x new within is cut whole h =
      All-tail (NotAfter R x) x new (All-permutation (NotAfter R x) items (x ∷ new) (least_taken least x new within is cut)
      (λ j d low. subst (λ (y : X). NotAfter R y (get_or items j d)) (get_or_default items least d x within ∙ sym is) (h j d (omega (arith, low, whole)))))
