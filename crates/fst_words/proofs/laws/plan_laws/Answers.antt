use Rattle.fst_words.proofs.KnownVerbs.{is_known}
use Rattle.fst_words.proofs.PlanLemmas.{plan_is_whole}
use Rattle.fst_words.proofs.PrefixLemmas.{prefix_is_free}
use Rattle.fst_words.proofs.laws.plan_laws.Goals as goal

pub returns-clause-whole : goal.returns-clause-whole
returns-clause-whole c = plan_is_whole

pub returns-clause-names : goal.returns-clause-names
returns-clause-names c verb = (is_known verb).named

pub returns-clause-prefix : goal.returns-clause-prefix
returns-clause-prefix c = prefix_is_free
