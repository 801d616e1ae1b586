-- What is known of a key that is looked up.
use Rattle.std.specs.Prelude.{◌≡◌, ℕ, List, Option, Some, slice_get}
use Rattle.fst_keys.specs.declared.keys.Sought.{Sought}
use Rattle.fst_keys.specs.declared.keys.Sought.TheVariants.{There, Unnumbered, Apart}
use Rattle.fst_table.specs.Slots.{with_place}
use Rattle.fst_keys.specs.Keys.{IsApart, IsUnnumbered}

abbrev pub IsSought : {K W : Type 0} → (K → ℕ) → (K → W) → List K → (ℕ → Option ℕ) → (W → Option ℕ) → K → Sought W → Type 0
IsSought code whole keys first other key (There place) = slice_get keys place ≡ Some key
IsSought code whole keys first other key (Unnumbered number) = IsUnnumbered code keys first key number
IsSought code whole keys first other key (Apart all) = IsApart code whole keys first other key all

-- of a key that is looked up the place was written for its number, where no key had it
abbrev pub IsNumbered : {W : Type 0} → (ℕ → Option ℕ) → (ℕ → Option ℕ) → ℕ → Sought W → Type 0
IsNumbered old new place (There _) = (n : ℕ) → new n ≡ old n
IsNumbered old new place (Unnumbered number) = (n : ℕ) → new n ≡ with_place old number place n
IsNumbered old new place (Apart _) = (n : ℕ) → new n ≡ old n
