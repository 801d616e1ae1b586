use Rattle.std.proofs.Common.{◌+◌, ◌-◌, ◌≤◌, length}
use Rattle.fst_compose.proofs.parts.has_many_matches.Given as goal

abbrev pub invariant-loop-at : goal.invariant-loop-at
invariant-loop-at g l = record { within : l.place ≤ length l.bs }

abbrev pub decreases-loop-at : goal.decreases-loop-at
decreases-loop-at g l = (length l.arcs - l.at) + (length l.bs - l.place)
