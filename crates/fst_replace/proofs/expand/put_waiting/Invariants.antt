use Rattle.std.proofs.Common.{◌≡◌, ◌++◌, length, reverse}
use Rattle.fst_replace.proofs.expand.put_waiting.Given as goal

abbrev pub invariant-loop-call : goal.invariant-loop-call
invariant-loop-call l = l.waiting.items ++ reverse l.calls.items ≡ l.initial.waiting.items ++ reverse l.initial.calls.items

abbrev pub decreases-loop-call : goal.decreases-loop-call
decreases-loop-call l = length l.calls.items
