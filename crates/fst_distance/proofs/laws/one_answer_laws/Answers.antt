use Rattle.fst_distance.proofs.OneAnswer.{one_answer}
use Rattle.fst_distance.proofs.laws.one_answer_laws.Goals as goal

pub returns : goal.returns
returns c = λ kind removed m. one_answer kind removed m
