use Rattle.fst_machine.specs.Machine.{valued}
use Rattle.fst_trim.proofs.Places.{NoneBefore}
use Rattle.fst_setops.specs.Unweighted.{HasWeights}
use Rattle.fst_setops.proofs.unweighted.weighted_at.Given as goal

abbrev pub invariant-loop-state : goal.invariant-loop-state
invariant-loop-state g l = NoneBefore (HasWeights g.W.Weight.KIND) (valued g.W.Weight.value l.b).states l.state
