use Rattle.std.proofs.Common.{◌≡◌, ◌≤◌, ◌+◌, ◌++◌, drop, length, map}
use Rattle.fst_verbs.specs.Batching.{lines_from, valued_answer}
use Rattle.fst_verbs.proofs.commands.batching.put_answers.Given as goal

-- the lines of the answers that are left complete what is appended
abbrev pub invariant-loop-place : goal.invariant-loop-place
invariant-loop-place g l =
    l.out.items ++ lines_from g.W.Weight.KIND (l.place + 1) (map (valued_answer g.W.Weight.value) (drop l.place l.answers))
    ≡ l.initial.out.items ++ lines_from g.W.Weight.KIND 1 (map (valued_answer g.W.Weight.value) l.answers)
