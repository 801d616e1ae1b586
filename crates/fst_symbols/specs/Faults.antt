-- What is said of a fault of a symbol table: its line, and what is wrong with the line.
use Rattle.std.specs.Prelude.{ℕ, List, codes}
use Rattle.fst_symbols.specs.declared.fault.SymbolsFault.{SymbolsFault}
use Rattle.fst_symbols.specs.declared.fault.SymbolsFault.TheVariants.{BadColumns, BadNumber, DuplicateSymbol, DuplicateNumber, Memory}

-- the line, from 1; without memory there is none
abbrev pub line_of : SymbolsFault → ℕ
line_of (BadColumns line) = line
line_of (BadNumber line) = line
line_of (DuplicateSymbol line) = line
line_of (DuplicateNumber line) = line
line_of Memory = 0

abbrev pub reason_of : SymbolsFault → List ℕ
reason_of (BadColumns line) = codes "wrong number of columns"
reason_of (BadNumber line) = codes "bad number"
reason_of (DuplicateSymbol line) = codes "symbol given twice"
reason_of (DuplicateNumber line) = codes "number given twice"
reason_of Memory = codes "out of memory"
