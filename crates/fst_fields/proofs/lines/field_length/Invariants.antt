use Rattle.std.proofs.Common.{◌≡◌, ◌+◌, drop}
use Rattle.std.specs.List.{position_or_len}
use Rattle.fst_fields.specs.Lines.{is_separator}
use Rattle.fst_fields.proofs.lines.field_length.Given as goal

-- what is counted so far and what is left to count are the whole
abbrev pub invariant-loop-i : goal.invariant-loop-i
invariant-loop-i l = l.i + position_or_len is_separator (drop l.i l.line) ≡ position_or_len is_separator l.line
