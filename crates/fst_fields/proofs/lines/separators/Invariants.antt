use Rattle.std.proofs.Common.{◌≡◌, ◌+◌, drop}
use Rattle.std.specs.List.{prefix_len}
use Rattle.fst_fields.specs.Lines.{is_separator}
use Rattle.fst_fields.proofs.lines.separators.Given as goal

-- what is counted so far and what is left to count are the whole
abbrev pub invariant-loop-i : goal.invariant-loop-i
invariant-loop-i l = l.i + prefix_len is_separator (drop l.i l.line) ≡ prefix_len is_separator l.line
