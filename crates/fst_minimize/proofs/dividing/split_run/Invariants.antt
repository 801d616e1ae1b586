use Rattle.std.proofs.Common.{◌≡◌, ◌<◌, ℕ, length}
use Rattle.fst_machine.specs.Graph.{Graph}
use Rattle.fst_minimize.specs.Dividing.{InRun, KeepsAlike, TellsMarked}
use Rattle.fst_minimize.specs.Parts.{IsMarked}
use Rattle.fst_minimize.proofs.dividing.split_run.Given as goal

abbrev pub invariant-loop-place : goal.invariant-loop-place
invariant-loop-place l = record {
  size : length l.parts.blocks.items ≡ length l.fn.parts.blocks.items;
  alike : (g : Graph ℕ) → TellsMarked g l.fn.parts → KeepsAlike g (length l.fn.parts.blocks.items) l.fn.parts.blocks.items → TellsMarked g l.parts × KeepsAlike g (length l.parts.blocks.items) l.parts.blocks.items;
  left : ((p : ℕ) → p < length l.fn.parts.blocks.items → IsMarked l.fn.parts p → InRun l.items l.first l.end p) → (p : ℕ) → p < length l.parts.blocks.items → IsMarked l.parts p → InRun l.items l.place l.end p;
}
