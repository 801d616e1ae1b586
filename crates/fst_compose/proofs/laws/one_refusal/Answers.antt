use Rattle.fst_compose.proofs.OneAnswer.{one_refusal}
use Rattle.fst_compose.proofs.laws.one_refusal.Goals as goal

pub returns : goal.returns
returns g = one_refusal
