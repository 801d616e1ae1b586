-- The symbols of a text, and the first fault of a text that is no table.
use Rattle.std.specs.Prelude.{ℕ, List, [], ◌∷◌, ◌++◌, is_some, Option, None, Some, Result, Ok, Err, if◌then◌else◌}
use Rattle.fst_fields.specs.Reading as reading
use Rattle.fst_fields.specs.Reading.{◌>>=◌}
use Rattle.fst_fields.specs.Texts.{read_text, row_of, with_row}
use Rattle.fst_fields.specs.Decimal.{label_of_text}
use Rattle.fst_symbols.specs.declared.fault.SymbolsFault.{SymbolsFault}
use Rattle.fst_symbols.specs.declared.fault.SymbolsFault.TheVariants.{BadColumns, BadNumber, DuplicateSymbol, DuplicateNumber, Memory}
use Rattle.fst_symbols.specs.Symbols.{Symbol, name_of, number_of}

-- the symbols before and one more, where its name and then its number are new
abbrev pub with_symbol : ℕ → List Symbol → List ℕ → ℕ → Result (List Symbol) SymbolsFault
with_symbol line before name number = if is_some (number_of before name) then Err (DuplicateSymbol line)
    else (if is_some (name_of before number) then Err (DuplicateNumber line) else Ok (before ++ record { name = name; number = number } ∷ []))

-- the name and the number of a line with these fields; a blank line has none
abbrev pub symbol_of : ℕ → List (List ℕ) → Result (Option (List ℕ × ℕ)) SymbolsFault
symbol_of line fields = elim (row_of fields) [
  | None ↦ Err (BadColumns line)
  | Some row ↦ elim row [
    | None ↦ Ok None
    | Some p ↦ elim (label_of_text p.1) [ None ↦ Err (BadNumber line) | Some n ↦ Ok (Some (p.0, n)) ]
  ]
]

-- the symbols before and that of a line with these fields; a blank line says nothing
abbrev pub after_line : ℕ → List Symbol → List (List ℕ) → Result (List Symbol) SymbolsFault
after_line line before fields = symbol_of line fields >>= with_row (λ (ss : List Symbol) row. with_symbol line ss row.0 row.1) before

-- the table of a text, or the first fault of its first faulty line
abbrev pub table_of_text : List ℕ → Result (List Symbol) SymbolsFault
table_of_text text = read_text after_line [] text

-- what was returned, seen by view, is what reading gives, or memory ran out
abbrev pub Gives : {X Y : Type 0} → (X → Y) → Result X SymbolsFault → Result Y SymbolsFault → Type 0
Gives view result read = reading.Gives Memory view result read
