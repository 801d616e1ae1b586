use Rattle.std.proofs.Common.{◌≡◌, ◌++◌, length}
use Rattle.fst_fields.specs.Lines.{lines_of}
use Rattle.fst_lattice.proofs.lines.Lines.read.Given as goal

abbrev pub invariant-loop-line : goal.invariant-loop-line
invariant-loop-line l = lines_of l.bytes ≡ l.lines ++ lines_of l.rest

abbrev pub decreases-loop-line : goal.decreases-loop-line
decreases-loop-line l = length l.rest
