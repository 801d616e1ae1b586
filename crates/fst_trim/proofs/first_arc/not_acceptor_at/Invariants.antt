use Rattle.fst_trim.specs.FirstArcs.{HasTwoLabels}
use Rattle.fst_trim.proofs.Places.{NoneAbove}
use Rattle.fst_trim.proofs.first_arc.not_acceptor_at.Given as goal

abbrev pub invariant-loop-state : goal.invariant-loop-state
invariant-loop-state g l = NoneAbove HasTwoLabels l.a l.state
