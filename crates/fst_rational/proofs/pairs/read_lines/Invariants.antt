use Rattle.std.proofs.Common.{map, ◌≡◌, ◌+◌, ◌≤◌, length}
use Rattle.fst_fields.specs.Lines.{fields_of, lines_of}
use Rattle.fst_fields.specs.Texts.{read_lines}
use Rattle.fst_rational.specs.Pairs.{after_line, pairs_of_text}
use Rattle.fst_rational.proofs.pairs.read_lines.Given as goal

-- the pairs so far and those of the lines that are left are the pairs of the text
abbrev pub invariant-loop-first : goal.invariant-loop-first
invariant-loop-first l = record {
  reading : read_lines after_line (l.line + 1) l.pairs (map fields_of (lines_of l.rest)) ≡ pairs_of_text l.bytes;
  counted : l.line + length l.rest ≤ length l.bytes;
}

abbrev pub decreases-loop-first : goal.decreases-loop-first
decreases-loop-first l = length l.rest
