use Rattle.fst_command.proofs.ReadAgain.{given_again, written_reads_again}
use Rattle.fst_command.proofs.laws.written_reads_again.Goals as goal

pub returns-clause-outputs : goal.returns-clause-outputs
returns-clause-outputs g = written_reads_again

pub returns-clause-given : goal.returns-clause-given
returns-clause-given g = given_again
