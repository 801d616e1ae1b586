use Rattle.fst_command.proofs.Completing.{completes}
use Rattle.fst_command.proofs.top.run.Goals as goal

pub returns-clause-completes : goal.returns-clause-completes
returns-clause-completes g c = completes _ _ _ _ c.finish.ensures.runs
