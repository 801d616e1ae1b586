-- Symbol tables: names of labels. (OpenFst Quick Tour, "Creating FSTs": a table maps symbols to label
-- numbers, and number 0 is epsilon. The range of the numbers is this project's own.)
use Rattle.std.specs.Prelude.{◌≡◌, ℕ, ◌<◌, ◌≤◌, ◌==◌, false, List, [], ◌∷◌, length, map, nat_eq, Option, None, Some, All, sum_by, if◌then◌else◌}
use Rattle.std.specs.Int.{div_ceil}
use Rattle.std.specs.List.{IsDistinct}
use Rattle.std.specs.Str.{bytes_eq}
use Rattle.fst_fields.specs.Lines.{is_line_end, is_separator}
use Rattle.fst_fields.specs.Decimal.{greatest_label}

-- A name, as bytes, and the label number that it stands for.
pub record Symbol : Type 0 where
  pub name : List ℕ
  pub number : ℕ

-- A byte of a name: it neither separates fields nor ends a line.
pub record IsNameByte (c : ℕ) : Type 0 where
  pub inner : is_separator c ≡ false
  pub on_line : is_line_end c ≡ false

-- A name is a field of a line.
pub record IsName (name : List ℕ) : Type 0 where
  pub filled : 0 < length name
  pub bytes : All IsNameByte name

-- A table: no two symbols have one name, and no two have one number.
pub record IsTable (symbols : List Symbol) : Type 0 where
  pub names : IsDistinct bytes_eq (map (λ s. s.name) symbols)
  pub numbers : IsDistinct nat_eq (map (λ s. s.number) symbols)
  pub fields : All (λ s. IsName s.name) symbols
  pub small : All (λ s. s.number ≤ greatest_label) symbols

-- the number of a name: that of the first symbol that has the name
abbrev pub number_of : List Symbol → List ℕ → Option ℕ
number_of [] name = None
number_of (s ∷ symbols) name = if bytes_eq name s.name then Some s.number else number_of symbols name

-- the name of a label: that of the first symbol that has the number
abbrev pub name_of : List Symbol → ℕ → Option (List ℕ)
name_of [] label = None
name_of (s ∷ symbols) label = if label == s.number then Some s.name else name_of symbols label

-- the mean length of a name, rounded up; 0 where there are none
abbrev pub mean_name_length : List Symbol → ℕ
mean_name_length symbols = div_ceil (sum_by (λ s. length s.name) symbols) (length symbols)
