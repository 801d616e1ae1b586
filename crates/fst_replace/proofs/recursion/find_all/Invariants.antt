use Rattle.std.proofs.Common.{◌≡◌, length, take}
use Rattle.fst_machine.specs.BreadthFirst.{Grows}
use Rattle.fst_machine.specs.Marks.{Marks}
use Rattle.fst_replace.proofs.recursion.find_all.Given as goal

abbrev pub invariant-loop-place : goal.invariant-loop-place
invariant-loop-place l = record {
  grows : Grows l.fn.names.items (take l.place-index l.places) l.names.items;
  marks : Marks l.seen.items l.names.items;
  size : length l.seen.items ≡ length l.fn.seen.items;
}
