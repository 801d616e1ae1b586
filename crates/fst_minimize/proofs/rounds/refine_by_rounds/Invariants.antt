use Rattle.std.proofs.Common.{◌≡◌, ◌≤◌, ◌-◌, ℕ, length}
use Rattle.fst_machine.specs.Graph.{Graph}
use Rattle.fst_minimize.specs.Numbered.{AreRows, IsNumbering, number_in}
use Rattle.fst_minimize.specs.Refining.{IsRefined}
use Rattle.fst_minimize.proofs.rounds.refine_by_rounds.Given as goal

abbrev pub invariant-loop-current : goal.invariant-loop-current
invariant-loop-current l = record {
  size : length l.current.numbers.items ≡ length l.rows;
  numbering : IsNumbering l.current.numbers.items l.current.least.items;
  few : length l.current.least.items ≤ length l.rows;
  refined : (g : Graph ℕ) → AreRows g (length l.rows) l.rows → IsRefined g (length l.rows) (number_in l.fn.first.numbers.items) → IsRefined g (length l.rows) (number_in l.current.numbers.items);
}

abbrev pub decreases-loop-current : goal.decreases-loop-current
decreases-loop-current l = length l.rows - length l.current.least.items
