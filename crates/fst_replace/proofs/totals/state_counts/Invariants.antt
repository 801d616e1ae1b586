use Rattle.std.proofs.Common.{◌≡◌, length, map, take}
use Rattle.fst_replace.proofs.totals.state_counts.Given as goal

abbrev pub invariant-loop-place : goal.invariant-loop-place
invariant-loop-place g l = l.counts.items ≡ map (λ r. length r.machine.states) (take l.place l.rules)
