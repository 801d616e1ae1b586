-- A key that was looked up.
use Rattle.std.proofs.Common.{◌≡◌, ℕ, List, Option, Some, slice_get, subst}
use Rattle.fst_keys.specs.declared.keys.Sought.{Sought}
use Rattle.fst_keys.specs.declared.keys.Sought.TheVariants.{There, Unnumbered, Apart}
use Rattle.fst_keys.specs.Keys.{IsApart, IsUnnumbered}
use Rattle.fst_table.specs.Slots.{with_place}
use Rattle.fst_keys.specs.Sought.{IsNumbered, IsSought}

module _ {K W : Type 0} (code : K → ℕ) (whole : K → W) (first : ℕ → Option ℕ) (other : W → Option ℕ) (key : K) (read keys : List K) (same : read ≡ keys) (s : Sought W) (h : IsSought code whole read first other key s) where
  sought_as : (t : Sought W) → s ≡ t → IsSought code whole keys first other key t
  sought_as t is = subst (λ (ks : List K). IsSought code whole ks first other key t) same (subst (λ (r : Sought W). IsSought code whole read first other key r) is h)

  pub sought_there : (p : ℕ) → s ≡ There p → slice_get keys p ≡ Some key
  sought_there p is = sought_as (There p) is

  pub sought_unnumbered : (number : ℕ) → s ≡ Unnumbered number → IsUnnumbered code keys first key number
  sought_unnumbered number is = sought_as (Unnumbered number) is

  pub sought_apart : (w : W) → s ≡ Apart w → IsApart code whole keys first other key w
  sought_apart w is = sought_as (Apart w) is

-- and what the table tells after it
module _ {W : Type 0} (old new : ℕ → Option ℕ) (place : ℕ) (s : Sought W) (h : IsNumbered old new place s) where
  pub numbered_there : (p : ℕ) → s ≡ There p → (n : ℕ) → new n ≡ old n
  numbered_there p is = subst (IsNumbered old new place) is h

  pub numbered_unnumbered : (number : ℕ) → s ≡ Unnumbered number → (n : ℕ) → new n ≡ with_place old number place n
  numbered_unnumbered number is = subst (IsNumbered old new place) is h

  pub numbered_apart : (w : W) → s ≡ Apart w → (n : ℕ) → new n ≡ old n
  numbered_apart w is = subst (IsNumbered old new place) is h
