use Rattle.fst_trim.specs.FirstArcs.{Repeats}
use Rattle.fst_trim.proofs.Places.{NoneAbove}
use Rattle.fst_trim.proofs.first_arc.not_deterministic_at.Given as goal

abbrev pub invariant-loop-state : goal.invariant-loop-state
invariant-loop-state g l = NoneAbove Repeats l.a l.state
