use Rattle.std.proofs.Common.{◌≡◌, arith, length}
use Rattle.std.proofs.lemmas.List.{length-map}
use Rattle.fst_symbols.specs.Kept.{symbols_of}
use Rattle.fst_symbols.proofs.Entries.{few_symbols}
use Rattle.fst_symbols.proofs.table.SymbolTable.len.Goals as goal

pub returns-clause-few : goal.returns-clause-few
returns-clause-few c =
    let entries = c.self.inside.symbols.entries in
    let same : length (symbols_of entries) ≡ length entries = length-map entries _ in
    omega (arith, few_symbols (symbols_of entries) c.self.invariant.table, c.len.ensures.len, same)
