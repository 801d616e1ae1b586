-- Lines of a text and fields of a line. (The text forms of the OpenFst Quick Tour, "Creating FSTs", where
-- white space separates the columns of a line.)
use Rattle.std.specs.Prelude.{ℕ, List, [], ◌∷◌, Bool, false, ◌==◌, ◌||◌, not, if◌then◌else◌}

-- the byte that ends a line
abbrev pub is_line_end : ℕ → Bool
is_line_end c = c == 10

-- the bytes that separate fields: space, tab and carriage return
abbrev pub is_separator : ℕ → Bool
is_separator c = (c == 32) || (c == 9) || (c == 13)

-- a byte put in front of the first list, which is made where there is none
abbrev pub in_front : ℕ → List (List ℕ) → List (List ℕ)
in_front c [] = (c ∷ []) ∷ []
in_front c (xs ∷ xss) = (c ∷ xs) ∷ xss

-- the lines of a text, without the bytes that end them; a last line needs no end
abbrev pub lines_of : List ℕ → List (List ℕ)
lines_of [] = []
lines_of (c ∷ cs) = if is_line_end c then [] ∷ lines_of cs else in_front c (lines_of cs)

-- the line begins within a field
abbrev pub begins_field : List ℕ → Bool
begins_field [] = false
begins_field (c ∷ cs) = not (is_separator c)

-- the fields of a line; several separators together separate once
abbrev pub fields_of : List ℕ → List (List ℕ)
fields_of [] = []
fields_of (c ∷ cs) = if is_separator c then fields_of cs else (if begins_field cs then in_front c (fields_of cs) else (c ∷ []) ∷ fields_of cs)
