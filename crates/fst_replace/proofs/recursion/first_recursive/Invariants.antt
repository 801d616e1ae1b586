use Rattle.std.proofs.Common.{ℕ, ◌<◌}
use Rattle.fst_replace.specs.Calls.{IsRecursive}
use Rattle.fst_replace.specs.Walks.{at_place}
use Rattle.fst_replace.proofs.recursion.first_recursive.Given as goal

abbrev pub invariant-loop-rule : goal.invariant-loop-rule
invariant-loop-rule l = (j : ℕ) → j < l.rule → IsRecursive (at_place l.calls) j → ⊥
