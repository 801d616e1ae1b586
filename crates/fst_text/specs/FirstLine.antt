-- The first line of a text, by its fields and by what stands behind it.
use Rattle.std.specs.Prelude.{◌≡◌, ℕ, Bool, true, false, List, [], ◌∷◌, map, Option, None, Some}
use Rattle.fst_fields.specs.Lines.{fields_of, lines_of}

-- the first line of the text has these fields, and the rest stands behind it
abbrev pub IsFirstLine : List ℕ → List (List ℕ) → List ℕ → Type 0
IsFirstLine text fields rest = map fields_of (lines_of text) ≡ fields ∷ map fields_of (lines_of rest)

-- what stands behind a field: where it has ended its line there is no other field, else a line goes on with these
abbrev pub GoesOn : Bool → List ℕ → List (List ℕ) → List ℕ → Type 0
GoesOn true text fields rest = (fields ≡ []) × (text ≡ rest)
GoesOn false text fields rest = IsFirstLine text fields rest

-- no field, or one
abbrev pub listed : Option (List ℕ) → List (List ℕ)
listed None = []
listed (Some field) = field ∷ []

-- whether there is none
abbrev pub is_none : Option (List ℕ) → Bool
is_none None = true
is_none (Some field) = false
