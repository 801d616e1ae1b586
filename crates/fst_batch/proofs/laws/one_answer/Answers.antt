use Rattle.fst_batch.proofs.OneAnswer as proofs
use Rattle.fst_batch.proofs.laws.one_answer.Goals as goal

pub returns : goal.returns
returns g c = λ kind value h n limit line. proofs.one_answer kind h n limit line value
