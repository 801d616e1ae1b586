use Rattle.fst_machine.proofs.OneMachine.{one_connected, one_numbered}
use Rattle.fst_machine.proofs.laws.machine_laws.Goals as goal

pub returns-clause-numbered : goal.returns-clause-numbered
returns-clause-numbered g c = one_numbered

pub returns-clause-connected : goal.returns-clause-connected
returns-clause-connected g c = one_connected
