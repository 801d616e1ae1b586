use Rattle.std.proofs.Common.{ℕ, List}
use Rattle.fst_minimize.specs.Numberers.{HasSeen}
use Rattle.fst_minimize.proofs.ByBlocks.{HasBoth}
use Rattle.fst_minimize.proofs.dividing.number_blocks.Given as goal

abbrev pub invariant-loop-state : goal.invariant-loop-state
invariant-loop-state l = (seen : List (ℕ × List ℕ)) × HasBoth l.first l.blocks l.state seen × HasSeen seen l.numberer
