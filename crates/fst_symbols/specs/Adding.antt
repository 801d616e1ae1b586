-- A table to which a symbol is added.
use Rattle.std.specs.Prelude.{◌≡◌, ℕ, true, is_some, None, List, [], ◌∷◌, ◌++◌, Result, Ok, Err}
use Rattle.fst_symbols.specs.declared.fault.AddSymbolFault.{AddSymbolFault}
use Rattle.fst_symbols.specs.declared.fault.AddSymbolFault.TheVariants.{SymbolTaken, NumberTaken, Memory}
use Rattle.fst_symbols.specs.Symbols.{Symbol, name_of, number_of}

-- The symbol stands behind the others, and none has its name or its number; or one has the name, or else the number, or
-- memory ran out, and the table stays as it was.
abbrev pub Adds : {X : Type 0} → List Symbol → List ℕ → ℕ → List Symbol → Result X AddSymbolFault → Type 0
Adds old name number new (Ok u) =
    (number_of old name ≡ None) × (name_of old number ≡ None) × (new ≡ old ++ record { name = name; number = number } ∷ [])
Adds old name number new (Err SymbolTaken) = (is_some (number_of old name) ≡ true) × (new ≡ old)
Adds old name number new (Err NumberTaken) = (number_of old name ≡ None) × (is_some (name_of old number) ≡ true) × (new ≡ old)
Adds old name number new (Err Memory) = new ≡ old
