use Rattle.fst_distance.proofs.Entering.{NoneEnters}
use Rattle.fst_distance.proofs.pushing.Pushing.is_entered.Given as goal

abbrev pub invariant-loop-from : goal.invariant-loop-from
invariant-loop-from g l = NoneEnters l.self l.from l.state
