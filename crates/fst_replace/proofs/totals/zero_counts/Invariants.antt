use Rattle.std.proofs.Common.{◌≡◌, map, take}
use Rattle.fst_replace.proofs.totals.zero_counts.Given as goal

abbrev pub invariant-loop-place : goal.invariant-loop-place
invariant-loop-place g l = l.counts.items ≡ map (λ r. 0) (take l.place l.rules)
