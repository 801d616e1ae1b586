use Rattle.fst_trim.proofs.Places.{NoneBefore}
use Rattle.fst_setops.specs.Unweighted.{ReadsEpsilon}
use Rattle.fst_setops.proofs.unweighted.epsilon_in.Given as goal

abbrev pub invariant-loop-place : goal.invariant-loop-place
invariant-loop-place g l = NoneBefore ReadsEpsilon l.arcs l.place
