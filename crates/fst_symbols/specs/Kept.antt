-- How the symbols of a table are kept: in a map of names in their order, and in a set of numbers, place for place.
use Rattle.std.specs.Prelude.{◌≡◌, ◌<◌, ℕ, ◌∷◌, ◌++◌, [], false, true, length, List, map, nat_eq, Option, Result, Ok, Err, sum_by}
use Rattle.std.specs.List.{list_any}
use Rattle.std.specs.Map.{lookup}
use Rattle.std.specs.Str.{bytes_eq}
use Rattle.fst_symbols.specs.declared.fault.AddSymbolFault.{AddSymbolFault}
use Rattle.fst_symbols.specs.declared.fault.AddSymbolFault.TheVariants.{SymbolTaken, NumberTaken, Memory}
use Rattle.fst_symbols.specs.declared.name.Name.{Name}
use Rattle.fst_symbols.specs.Symbols.{IsTable, Symbol}

-- the symbols of the entries of a map
abbrev pub symbols_of : List (Name × ℕ) → List Symbol
symbols_of entries = map (λ e. record { name = e.0.bytes.items; number = e.1 }) entries

-- The entries are a table; the numbers are theirs in their order; the names have so many bytes together,
-- which a word of 32 bits tells.
pub record IsKept (entries : List (Name × ℕ)) (numbers : List ℕ) (total : ℕ) : Type 0 where
  pub table : IsTable (symbols_of entries)
  pub placed : numbers ≡ map (λ e. e.1) entries
  pub counted : total ≡ sum_by (λ s. length s.name) (symbols_of entries)
  pub fits : total < 4294967296

-- the number of a name among entries
abbrev pub found_in : List (Name × ℕ) → List ℕ → Option ℕ
found_in entries name = lookup (λ (k : Name). bytes_eq name k.bytes.items) entries

-- a number stands behind the others, among which it was not; or it was, or memory ran out, and all stays as it was
abbrev pub PutsNumber : {X : Type 0} → List ℕ → ℕ → List ℕ → Result X AddSymbolFault → Type 0
PutsNumber numbers number left (Ok u) = (list_any (nat_eq number) numbers ≡ false) × (left ≡ numbers ++ number ∷ [])
PutsNumber numbers number left (Err SymbolTaken) = ⊥
PutsNumber numbers number left (Err NumberTaken) = (list_any (nat_eq number) numbers ≡ true) × (left ≡ numbers)
PutsNumber numbers number left (Err Memory) = left ≡ numbers

-- A name and a number stand behind the others, among which the number was not; or it was, or memory ran out, and all stays
-- as it was.
abbrev pub Puts : {X : Type 0} → List (Name × ℕ) → List ℕ → Name → ℕ → List (Name × ℕ) → List ℕ → Result X AddSymbolFault → Type 0
Puts entries numbers name number after left (Ok u) =
    (after ≡ entries ++ (name, number) ∷ []) × (list_any (nat_eq number) numbers ≡ false) × (left ≡ numbers ++ number ∷ [])
Puts entries numbers name number after left (Err SymbolTaken) = ⊥
Puts entries numbers name number after left (Err NumberTaken) = (after ≡ entries) × (list_any (nat_eq number) numbers ≡ true) × (left ≡ numbers)
Puts entries numbers name number after left (Err Memory) = (after ≡ entries) × (left ≡ numbers)
