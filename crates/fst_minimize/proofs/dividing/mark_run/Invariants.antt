use Rattle.std.proofs.Common.{◌≡◌, ◌⊎◌, ◌<◌, ℕ, length}
use Rattle.fst_minimize.specs.Dividing.{InRun}
use Rattle.fst_minimize.specs.Parts.{IsMarked}
use Rattle.fst_minimize.proofs.dividing.mark_run.Given as goal

abbrev pub invariant-loop-place : goal.invariant-loop-place
invariant-loop-place l = record {
  blocks : l.parts.blocks.items ≡ l.fn.parts.blocks.items;
  only : (p : ℕ) → p < length l.fn.parts.blocks.items → IsMarked l.parts p → IsMarked l.fn.parts p ⊎ InRun l.items l.first l.place p;
  all : (p : ℕ) → InRun l.items l.first l.place p → IsMarked l.parts p;
}
