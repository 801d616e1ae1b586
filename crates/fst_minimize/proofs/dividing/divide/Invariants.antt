use Rattle.std.proofs.Common.{◌≡◌, ℕ, length}
use Rattle.fst_machine.specs.Graph.{Graph}
use Rattle.fst_minimize.specs.Dividing.{KeepsAlike, NoMarks}
use Rattle.fst_minimize.specs.Numbered.{AreRows}
use Rattle.fst_minimize.proofs.dividing.divide.Given as goal

abbrev pub invariant-loop : goal.invariant-loop
invariant-loop l = record {
  size : length l.parts.blocks.items ≡ length l.rows;
  none : NoMarks l.parts;
  alike : (g : Graph ℕ) → AreRows g (length l.rows) l.rows → KeepsAlike g (length l.rows) l.numbers → KeepsAlike g (length l.rows) l.parts.blocks.items;
}
