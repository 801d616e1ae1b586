use Rattle.std.proofs.Common.{◌≡◌, ◌+◌, ◌≤◌, length}
use Rattle.fst_fields.specs.Lines.{lines_of}
use Rattle.fst_symbols.proofs.table.line_count.Given as goal

-- the lines so far and those that are left are all
abbrev pub invariant-loop-behind : goal.invariant-loop-behind
invariant-loop-behind l = record {
  told : l.lines + length (lines_of l.rest) ≡ length (lines_of l.bytes);
  counted : l.lines + length l.rest ≤ length l.bytes;
}

abbrev pub decreases-loop-behind : goal.decreases-loop-behind
decreases-loop-behind l = length l.rest
