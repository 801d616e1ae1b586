use Rattle.fst_symbols.proofs.Entries.{IsKept-nil}
use Rattle.fst_symbols.proofs.table.SymbolTable.with_room.Goals as goal

pub invariant_of-result : goal.invariant_of-result
invariant_of-result c = IsKept-nil _ _ c.in_ok-with_capacity_and_hasher.ensures.empty c.in_ok-with_capacity_and_hasher-2.ensures.empty
