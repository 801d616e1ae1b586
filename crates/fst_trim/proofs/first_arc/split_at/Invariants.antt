use Rattle.fst_trim.specs.FirstArcs.{HasTwoLabels}
use Rattle.fst_trim.proofs.Places.{NoneBefore}
use Rattle.fst_trim.proofs.first_arc.split_at.Given as goal

abbrev pub invariant-loop-place : goal.invariant-loop-place
invariant-loop-place g l = NoneBefore HasTwoLabels l.arcs l.place
