use Rattle.fst_symbols.proofs.Names.{first-inner}
use Rattle.fst_symbols.proofs.table.SymbolTable.read.Goals as goal

pub add_line-requires : goal.add_line-requires
add_line-requires c = first-inner c.loop-first.rest.now c.in-Some.first.now _ c.in-Some.ensures.lines
