-- Keys that are looked through from the front.
use Rattle.std.proofs.Common.{◌≡◌, ℕ, ◌+◌, ◌≤◌, Bool, false, ◌||◌, List, [], ◌∷◌, ◌++◌, Some, length, slice_get, take, sym, ap, ◌∙◌}
use Rattle.std.specs.List.{list_any}
use Rattle.std.proofs.lemmas.List.{take_all, take_more}
use Rattle.std.proofs.lemmas.List.Folds.{list_any-append}
use Rattle.std.proofs.lemmas.Option.{get_or_from_slice_get, slice_get_within}

module _ {K : Type 0} (test : K → Bool) (keys : List K) where
  -- one more that does not pass the test
  pub none_more : (i : ℕ) (k : K) → slice_get keys i ≡ Some k → test k ≡ false → list_any test (take i keys) ≡ false → list_any test (take (i + 1) keys) ≡ false
  none_more i k there other none =
      ap (list_any test) (take_more keys i k (slice_get_within keys i k there) ∙ ap (λ (x : K). take i keys ++ x ∷ []) (get_or_from_slice_get keys i k k there))
      ∙ (list_any-append test (take i keys) (k ∷ [])
      ∙ (ap (λ (t : Bool). t || list_any test (k ∷ [])) none ∙ ap (λ (t : Bool). t || false) other))

  -- none of all
  pub all_none : (i : ℕ) → length keys ≤ i → list_any test (take i keys) ≡ false → list_any test keys ≡ false
  all_none i high none = ap (list_any test) (sym (take_all i keys high)) ∙ none
