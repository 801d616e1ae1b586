use Rattle.std.proofs.Common.{◌≡◌, length, take}
use Rattle.fst_machine.specs.BreadthFirst.{Grows}
use Rattle.fst_machine.specs.Marks.{Marks}
use Rattle.fst_trim.proofs.useful.find_each.Given as goal

abbrev pub invariant-loop-state : goal.invariant-loop-state
invariant-loop-state l = record {
  grows : Grows l.fn.names.items (take l.state-index l.states) l.names.items;
  marks : Marks l.seen.items l.names.items;
  size : length l.seen.items ≡ length l.fn.seen.items;
}
