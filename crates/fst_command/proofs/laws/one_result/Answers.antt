use Rattle.fst_command.proofs.OneResult.{one_result}
use Rattle.fst_command.proofs.laws.one_result.Goals as goal

pub returns : goal.returns
returns c = one_result
