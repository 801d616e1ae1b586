use Rattle.fst_claims.proofs.Says.{says}
use Rattle.fst_claims.proofs.laws.rule_says.Goals as goal

pub returns : goal.returns
returns c = says
