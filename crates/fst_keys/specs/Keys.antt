-- Keys that are found by numbers, and where others have their numbers, by all that they are.
use Rattle.std.specs.Prelude.{◌≡◌, ◌⊎◌, ◌++◌, ◌∷◌, ℕ, Bool, List, [], Option, None, Some, slice_get, if◌then◌else◌}
use Rattle.std.specs.BTreeMap.{is_at}
use Rattle.std.specs.List.{list_any}
use Rattle.std.specs.declared.cmp.Ordering.{Ordering}

-- the keys after one is put in: they stay where one is equal to it, and else it goes last
abbrev pub with_key : {K : Type 0} → (K → K → Bool) → List K → K → List K
with_key eq keys key = if list_any (eq key) keys then keys else keys ++ key ∷ []

-- A table has for a number the place of a key that has it, and a map has places by all that keys are. For the number of
-- each key the table has a place, and where it is not that of the key, the map has that.
pub record AreKept {K W : Type 0} (code : K → ℕ) (whole : K → W) (keys : List K) (first : ℕ → Option ℕ) (other : W → Option ℕ) : Type 0 where
  pub coded : (c p : ℕ) → first c ≡ Some p → (k : K) × (slice_get keys p ≡ Some k) × (code k ≡ c)
  pub told : (w : W) (p : ℕ) → other w ≡ Some p → (k : K) × (slice_get keys p ≡ Some k) × (whole k ≡ w)
  pub found : (i : ℕ) (k : K) → slice_get keys i ≡ Some k → (h : ℕ) × (first (code k) ≡ Some h) × ((h ≡ i) ⊎ (other (whole k) ≡ Some i))

-- a key is none of these
abbrev pub IsNew : {K : Type 0} → List K → K → Type 0
IsNew keys key = (i : ℕ) → slice_get keys i ≡ Some key → ⊥

-- no key has the number of this one
pub record IsUnnumbered {K : Type 0} (code : K → ℕ) (keys : List K) (first : ℕ → Option ℕ) (key : K) (number : ℕ) : Type 0 where
  pub is_code : number ≡ code key
  pub absent : first number ≡ None
  pub new : IsNew keys key

-- another key has the number of this one, which is none of them
pub record IsApart {K W : Type 0} (code : K → ℕ) (whole : K → W) (keys : List K) (first : ℕ → Option ℕ) (other : W → Option ℕ) (key : K) (all : W) : Type 0 where
  pub is_whole : all ≡ whole key
  pub numbered : (h : ℕ) × (first (code key) ≡ Some h)
  pub absent : other all ≡ None
  pub new : IsNew keys key

-- one more place by all that a key is
abbrev pub with_whole : {W : Type 0} → (W → W → Ordering) → (W → Option ℕ) → W → ℕ → W → Option ℕ
with_whole cmp told whole place w = if is_at (cmp whole) w then Some place else told w
