use Rattle.std.proofs.Common.{◌≡◌, length}
use Rattle.fst_table.specs.Placed.{placed_in}
use Rattle.fst_table.proofs.Slots.{HasFront}
use Rattle.fst_table.proofs.flat_table.FlatTable.fill_from_slots.Given as goal

abbrev pub invariant-loop-slot : goal.invariant-loop-slot
invariant-loop-slot l = record {
  front : HasFront l.from.slots.items (placed_in l.self) l.slot-index;
  len : length l.self.slots.items ≡ length l.fn.self.slots.items;
}
