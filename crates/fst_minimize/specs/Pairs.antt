-- Rows of numbers read into a table of pairs. (Numbering rows by the pairs of what was read so far and the next number
-- tells equal rows without comparing them.)
use Rattle.std.specs.Prelude.{◌≡◌, ◌⊎◌, ℕ, ◌+◌, ◌*◌, ◌<◌, List, [], ◌∷◌, Some, Option}

-- the number that stands for a pair
abbrev pub packed : ℕ → ℕ → ℕ
packed first second = first * 4294967296 + second

-- A table that knows fewer than so many places, no two numbers with one place.
pub record IsNumberTable (known : ℕ → Option ℕ) (count : ℕ) : Type 0 where
  pub below : (n i : ℕ) → known n ≡ Some i → i < count
  pub once : (n m i : ℕ) → known n ≡ Some i → known m ≡ Some i → n ≡ m

-- what one table knows the other knows too
abbrev pub KnowsMore : (ℕ → Option ℕ) → (ℕ → Option ℕ) → Type 0
KnowsMore known more = (n i : ℕ) → known n ≡ Some i → more n ≡ Some i

-- From the number head these values are read, one after the other, and the last pair has number end.
abbrev pub Spells : (ℕ → Option ℕ) → ℕ → List ℕ → ℕ → Type 0
Spells known head [] end = head ≡ end
Spells known head (v ∷ vs) end = (k : ℕ) × (known (packed head v) ≡ Some k) × Spells known k vs end

-- the number is one of so many, or the next one
abbrev pub IsNext : ℕ → ℕ → ℕ → Type 0
IsNext count n more = ((n < count) × (more ≡ count)) ⊎ ((n ≡ count) × (more ≡ count + 1))
