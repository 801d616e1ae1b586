use Rattle.fst_trim.proofs.Places.{NoneAbove}
use Rattle.fst_setops.specs.Unweighted.{ReadsEpsilon}
use Rattle.fst_setops.proofs.unweighted.epsilon_at.Given as goal

abbrev pub invariant-loop-state : goal.invariant-loop-state
invariant-loop-state g l = NoneAbove ReadsEpsilon l.b l.state
