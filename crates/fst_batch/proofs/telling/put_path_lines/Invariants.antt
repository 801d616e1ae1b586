use Rattle.std.proofs.Common.{◌≡◌, ◌++◌, drop}
use Rattle.std.specs.List.{flat_map}
use Rattle.fst_batch.specs.AnswerText.{path_line}
use Rattle.fst_batch.proofs.telling.put_path_lines.Given as goal

-- the lines of the paths that are left complete what is appended
abbrev pub invariant-loop-place : goal.invariant-loop-place
invariant-loop-place g l = l.out.items ++ flat_map (path_line g.W.Weight.KIND g.W.Weight.value l.number) (drop l.place l.answers) ≡ l.initial.out.items ++ flat_map (path_line g.W.Weight.KIND g.W.Weight.value l.number) l.answers
