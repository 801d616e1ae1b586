use Rattle.fst_trim.proofs.OneAnswer.{one_described, one_sorted}
use Rattle.fst_trim.proofs.laws.one_answer.Goals as goal

pub returns-clause-sorted : goal.returns-clause-sorted
returns-clause-sorted g c = one_sorted

pub returns-clause-described : goal.returns-clause-described
returns-clause-described g c = one_described
