-- Texts that are read line by line, and lines of two columns.
use Rattle.std.specs.Prelude.{◌≡◌, ℕ, ◌+◌, List, [], ◌∷◌, map, Option, None, Some, Result, Ok, Err}
use Rattle.fst_fields.specs.Lines.{fields_of, lines_of}
use Rattle.fst_fields.specs.Reading.{◌>>=◌}

-- what a function returned, seen by view, is what reading gives
abbrev pub IsRead : {X Y E : Type 0} → (X → Y) → Result X E → Result Y E → Type 0
IsRead view (Ok x) read = read ≡ Ok (view x)
IsRead view (Err fault) read = read ≡ Err fault

-- What is read of lines by their fields, one after the other: the first line has this number, and what was read
-- before it is s. It is the fault of the first faulty line where there is one.
abbrev pub read_lines : {S E : Type 0} → (ℕ → S → List (List ℕ) → Result S E) → ℕ → S → List (List (List ℕ)) → Result S E
read_lines after_line line s [] = Ok s
read_lines after_line line s (fields ∷ lines) = after_line line s fields >>= λ t. read_lines after_line (line + 1) t lines

-- what is read of a text
abbrev pub read_text : {S E : Type 0} → (ℕ → S → List (List ℕ) → Result S E) → S → List ℕ → Result S E
read_text after_line s text = read_lines after_line 1 s (map fields_of (lines_of text))

-- The row of a line with these fields: its two fields, or nothing where the line is blank. None where it has one
-- field, or more than two.
abbrev pub row_of : List (List ℕ) → Option (Option (List ℕ × List ℕ))
row_of [] = Some None
row_of (first ∷ second ∷ []) = Some (Some (first, second))
row_of _ = None

-- what was read before, and the row of a line, if it has one, taken in by add
abbrev pub with_row : {S R E : Type 0} → (S → R → Result S E) → S → Option R → Result S E
with_row add before None = Ok before
with_row add before (Some row) = add before row
