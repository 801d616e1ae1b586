-- The order of words: shorter ones first, and words of one length by their labels.
use Rattle.std.specs.Prelude.{◌≡◌, ◌⊎◌, ◌<◌, ℕ, List, [], ◌∷◌, length}

-- the first word is less at the first place where two words of one length differ
abbrev pub IsLesser : List ℕ → List ℕ → Type 0
IsLesser [] y = ⊥
IsLesser (a ∷ x) [] = ⊥
IsLesser (a ∷ x) (b ∷ y) = (a < b) ⊎ ((a ≡ b) × IsLesser x y)

-- the first word is shorter, or as long and less
abbrev pub IsSooner : List ℕ → List ℕ → Type 0
IsSooner x y = (length x < length y) ⊎ ((length x ≡ length y) × IsLesser x y)
