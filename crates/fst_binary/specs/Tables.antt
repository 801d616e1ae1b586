-- A symbol table in bytes: how many symbols it has, and each as its name after its length and its number. What is read is
-- the table and the offset after it, or the first fault that is met.
use Rattle.std.specs.Prelude.{ℕ, zero, suc, ◌<◌, ◌||◌, ◌++◌, List, [], ◌∷◌, length, All, Bool, not, is_some, Result, Ok, nat_lt, nat_le, if◌then◌else◌}
use Rattle.std.specs.List.{flat_map, list_all}
use Rattle.fst_fields.specs.Lines.{is_line_end, is_separator}
use Rattle.fst_fields.specs.Reading.{◌>>=◌}
use Rattle.fst_bytes.specs.Reading.{fault, label_at, number_where, part_at}
use Rattle.fst_bytes.specs.Spelling.{long, text, word}
use Rattle.fst_symbols.specs.Symbols.{IsTable, Symbol, name_of, number_of}
use Rattle.fst_binary.specs.declared.fault.BinaryKind.TheVariants.{BadCount, BadSymbols, Short}
use Rattle.fst_binary.specs.Faults.{BinaryFault}

-- ---- the bytes of a table

-- a symbol
abbrev pub symbol_fields : Symbol → List ℕ
symbol_fields s = text s.name ++ word s.number

-- a table
abbrev pub table_fields : List Symbol → List ℕ
table_fields t = long (length t) ++ flat_map symbol_fields t

-- a name whose length has four bytes
abbrev pub IsShort : Symbol → Type 0
IsShort s = length s.name < 4294967296

-- a table that has these bytes: the length of each name has four
pub record HasTableFields (t : List Symbol) : Type 0 where
  pub table : IsTable t
  pub short : All IsShort t

-- ---- reading

-- a byte of a name
abbrev pub is_name_byte : ℕ → Bool
is_name_byte c = not (is_separator c || is_line_end c)

-- A name, after its length, as one field. A length of 0 is refused before more is read.
unfoldable pub name_at : List ℕ → ℕ → Result (List ℕ × ℕ) BinaryFault
name_at bytes at = do
  count ← number_where (λ n. nat_lt 0 n) Short BadSymbols 4 bytes at
  name ← part_at Short count.0 bytes count.1
  if list_all is_name_byte name.0 then Ok name else fault BadSymbols at

-- The symbols before, and the one that stands at an offset: none of those before has its name, or else its number.
unfoldable pub with_symbol_at : List Symbol → List ℕ → ℕ → Result (List Symbol × ℕ) BinaryFault
with_symbol_at before bytes at = do
  name ← name_at bytes at
  number ← if is_some (number_of before name.0) then fault BadSymbols at else label_at Short BadSymbols bytes name.1
  if is_some (name_of before number.0) then fault BadSymbols name.1 else Ok (before ++ record { name = name.0; number = number.0 } ∷ [], number.1)

-- the symbols before, and so many more
unfoldable pub with_symbols_at : ℕ → List Symbol → List ℕ → ℕ → Result (List Symbol × ℕ) BinaryFault
with_symbols_at zero before bytes at = Ok (before, at)
with_symbols_at (suc n) before bytes at = do
  more ← with_symbol_at before bytes at
  with_symbols_at n more.0 bytes more.1

-- a table
unfoldable pub table_at : List ℕ → ℕ → Result (List Symbol × ℕ) BinaryFault
table_at bytes at = do
  count ← number_where (λ n. nat_le n 2147483648) Short BadCount 8 bytes at
  with_symbols_at count.0 [] bytes count.1
