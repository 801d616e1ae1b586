use Rattle.fst_words.proofs.PlanLemmas.{answer_is_whole}
use Rattle.fst_words.proofs.read.read_words.Goals as goal

pub returns-clause-whole : goal.returns-clause-whole
returns-clause-whole c = answer_is_whole _ c.plan_of.result c.plan_of.ensures
