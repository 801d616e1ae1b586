-- The symbol tables of the sides of a machine, each there or not, and the version and the flags, which tell which are.
use Rattle.std.specs.Prelude.{ℕ, ◌++◌, ◌==◌, ◌||◌, ◌&&◌, List, [], Bool, Option, Some, None, Result, Ok, nat_le, if◌then◌else◌}
use Rattle.fst_fields.specs.Reading.{◌>>=◌}
use Rattle.fst_bytes.specs.Reading.{number_where}
use Rattle.fst_symbols.specs.Symbols.{Symbol}
use Rattle.fst_binary.specs.declared.fault.BinaryKind.TheVariants.{BadFlags, BadVersion, Short}
use Rattle.fst_binary.specs.Faults.{BinaryFault}
use Rattle.fst_binary.specs.Tables.{HasTableFields, table_at, table_fields}

-- the tables of the two sides
pub record Sides : Type 0 where
  pub isymbols : Option (List Symbol)
  pub osymbols : Option (List Symbol)

-- no table on either side
abbrev pub neither : Sides
neither = record { isymbols = None; osymbols = None }

-- the version of the form in which such tables are written
abbrev pub version_of : Option (List Symbol) → Option (List Symbol) → ℕ
version_of None None = 2
version_of None (Some o) = 3
version_of (Some i) None = 3
version_of (Some i) (Some o) = 3

-- the flags: 1 for a table of the input side, and 2 for one of the output side
abbrev pub flags_of : Option (List Symbol) → Option (List Symbol) → ℕ
flags_of None None = 0
flags_of (Some i) None = 1
flags_of None (Some o) = 2
flags_of (Some i) (Some o) = 3

-- the table of a side, where it is there
abbrev pub side_fields : Option (List Symbol) → List ℕ
side_fields None = []
side_fields (Some t) = table_fields t

-- and those of both
abbrev pub sides_fields : Sides → List ℕ
sides_fields s = side_fields s.isymbols ++ side_fields s.osymbols

-- a table that is there has bytes
abbrev pub HasSide : Option (List Symbol) → Type 0
HasSide None = Unit {0}
HasSide (Some t) = HasTableFields t

abbrev pub HasSides : Sides → Type 0
HasSides s = HasSide s.isymbols × HasSide s.osymbols

-- ---- reading

-- flags that a version may have
abbrev pub are_flags : ℕ → ℕ → Bool
are_flags version flags = if version == 2 then flags == 0 else (nat_le 1 flags && nat_le flags 3)

-- whether the flags tell of a table of the input side
abbrev pub has_input : ℕ → Bool
has_input flags = (flags == 1) || (flags == 3)

-- and of the output side
abbrev pub has_output : ℕ → Bool
has_output flags = nat_le 2 flags

-- the flags, after the version
unfoldable pub flags_at : List ℕ → ℕ → Result (ℕ × ℕ) BinaryFault
flags_at bytes at = do
  version ← number_where (λ n. nat_le 2 n && nat_le n 3) Short BadVersion 4 bytes at
  number_where (are_flags version.0) Short BadFlags 4 bytes version.1

-- a table where one is there
unfoldable pub side_at : Bool → List ℕ → ℕ → Result (Option (List Symbol) × ℕ) BinaryFault
side_at here bytes at = if here then (table_at bytes at >>= λ t. Ok (Some t.0, t.1)) else Ok (None, at)

-- the tables of which the flags tell
unfoldable pub sides_at : ℕ → List ℕ → ℕ → Result (Sides × ℕ) BinaryFault
sides_at flags bytes at = do
  isymbols ← side_at (has_input flags) bytes at
  osymbols ← side_at (has_output flags) bytes isymbols.1
  Ok (record { isymbols = isymbols.0; osymbols = osymbols.0 }, osymbols.1)
