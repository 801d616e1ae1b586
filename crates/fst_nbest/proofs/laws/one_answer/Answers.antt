use Rattle.fst_nbest.proofs.OneAnswer.{one_list}
use Rattle.fst_nbest.proofs.laws.one_answer.Goals as goal

pub returns : goal.returns
returns g c kind graph n one two a b = one_list kind graph n one two a b
