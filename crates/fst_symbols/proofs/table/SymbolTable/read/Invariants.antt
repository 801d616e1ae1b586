use Rattle.std.proofs.Common.{map, ◌≡◌, ◌+◌, ◌≤◌, length}
use Rattle.fst_fields.specs.Lines.{fields_of, lines_of}
use Rattle.fst_fields.specs.Texts.{read_lines}
use Rattle.fst_symbols.specs.Reading.{after_line, table_of_text}
use Rattle.fst_symbols.proofs.table.SymbolTable.read.Given as goal

-- the symbols so far and those of the lines that are left are the table
abbrev pub invariant-loop-first : goal.invariant-loop-first
invariant-loop-first l = record {
  reading : read_lines after_line (l.line + 1) l.table (map fields_of (lines_of l.rest)) ≡ table_of_text l.bytes;
  counted : l.line + length l.rest ≤ length l.bytes;
}

abbrev pub decreases-loop-first : goal.decreases-loop-first
decreases-loop-first l = length l.rest
