use Rattle.std.proofs.Common.{◌≡◌, ◌-◌, ◌≤◌, ℕ, length}
use Rattle.fst_machine.specs.Graph.{Graph}
use Rattle.fst_minimize.specs.Dividing.{KeepsAlike, NoMarks, TakesAlike}
use Rattle.fst_minimize.proofs.ByBlocks.{IsCut}
use Rattle.fst_minimize.proofs.dividing.divide_by_runs.Given as goal

abbrev pub invariant-loop-first : goal.invariant-loop-first
invariant-loop-first l = record {
  size : length l.parts.blocks.items ≡ length l.fn.parts.blocks.items;
  within : l.first ≤ length l.items;
  cut : IsCut l.items l.first;
  none : NoMarks l.parts;
  alike : (g : Graph ℕ) → TakesAlike g (length l.fn.parts.blocks.items) l.items → KeepsAlike g (length l.fn.parts.blocks.items) l.fn.parts.blocks.items → KeepsAlike g (length l.parts.blocks.items) l.parts.blocks.items;
}

abbrev pub decreases-loop-first : goal.decreases-loop-first
decreases-loop-first l = length l.items - l.first
