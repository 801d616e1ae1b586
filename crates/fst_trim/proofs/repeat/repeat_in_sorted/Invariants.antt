use Rattle.fst_trim.specs.FirstArcs.{Repeats}
use Rattle.fst_trim.proofs.Places.{NoneBefore}
use Rattle.fst_trim.proofs.repeat.repeat_in_sorted.Given as goal

abbrev pub invariant-loop-place : goal.invariant-loop-place
invariant-loop-place g l = NoneBefore Repeats l.arcs l.place
