use Rattle.fst_symbols.proofs.Entries.{IsKept-nil}
use Rattle.fst_symbols.proofs.table.SymbolTable.new.Goals as goal

pub invariant_of-result : goal.invariant_of-result
invariant_of-result c = IsKept-nil _ _ c.with_hasher.ensures.empty c.with_hasher-2.ensures.empty
