use Rattle.std.proofs.Common.{◌≡◌, length, take}
use Rattle.fst_minimize.specs.Along.{IsAlong}
use Rattle.fst_minimize.proofs.along.refine_along.Given as goal

abbrev pub invariant-loop-state : goal.invariant-loop-state
invariant-loop-state l = record {
  size : length l.pass.numbers.items ≡ length l.rows;
  sizes : length l.pass.marks.items ≡ length l.rows;
  along : IsAlong l.first.numbers.items l.rows (take l.state-index l.state-items) l.pass;
}
