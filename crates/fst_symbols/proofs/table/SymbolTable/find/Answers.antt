use Rattle.std.proofs.Common.{◌∙◌, List, ap}
use Rattle.fst_symbols.specs.Kept.{found_in}
use Rattle.fst_symbols.specs.Symbols.{Symbol, number_of}
use Rattle.fst_symbols.proofs.Entries.{found_number}
use Rattle.fst_symbols.proofs.table.SymbolTable.find.Goals as goal

pub returns-clause-number : goal.returns-clause-number
returns-clause-number c =
    let entries = c.self.inside.symbols.entries in
    let name = c.args.name.now in
    c.copied.ensures ∙ c.get.ensures.value ∙ ap (found_in entries) c.of.ensures ∙ found_number entries name ∙ ap (λ (ss : List Symbol). number_of ss name) c.self.view_is
