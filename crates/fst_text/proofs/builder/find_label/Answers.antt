use Rattle.std.proofs.Common.{sym}
use Rattle.fst_text.proofs.SymbolTables.{number_of-small}
use Rattle.fst_text.proofs.builder.find_label.Goals as goal

pub returns-in-Some-clause-small : goal.returns-in-Some-clause-small
returns-in-Some-clause-small c =
    let found = c.in-Some.ensures in
    number_of-small c.args.symbols.now c.args.name.now c.in-Some.label found.table (sym found.number)
