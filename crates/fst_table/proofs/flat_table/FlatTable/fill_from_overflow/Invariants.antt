use Rattle.std.proofs.Common.{◌≡◌, length}
use Rattle.fst_table.specs.Placed.{placed_in}
use Rattle.fst_table.proofs.Overflow.{HasRest}
use Rattle.fst_table.proofs.flat_table.FlatTable.fill_from_overflow.Given as goal

abbrev pub invariant-loop-number : goal.invariant-loop-number
invariant-loop-number l = record {
  rest : HasRest (placed_in l.self) (placed_in l.from) l.number-iterator;
  len : length l.self.slots.items ≡ length l.fn.self.slots.items;
}
