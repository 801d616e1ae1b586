use Rattle.std.proofs.Common.{map, ◌≡◌, ◌+◌, ◌≤◌, length}
use Rattle.fst_fields.specs.Lines.{fields_of, lines_of}
use Rattle.fst_fields.specs.Texts.{read_lines}
use Rattle.fst_text.specs.Building.{IsPlaced, after_line, built, built_of_text}
use Rattle.fst_text.proofs.compiling.read_lines.Given as goal

-- the lines that are left build on what the lines before have built
abbrev pub invariant-loop-rest : goal.invariant-loop-rest
invariant-loop-rest g l = record {
  building : read_lines (after_line g.W.Weight.KIND l.options) (l.line + 1) (built g.W.Weight.value l.builder) (map fields_of (lines_of l.rest)) ≡ built_of_text g.W.Weight.KIND l.options l.text;
  placed : IsPlaced (built g.W.Weight.value l.builder);
  counted : l.line + length l.rest ≤ length l.text;
}

abbrev pub decreases-loop-rest : goal.decreases-loop-rest
decreases-loop-rest g l = length l.rest
