use Rattle.fst_words.specs.Plans.{rule_labels}
use Rattle.fst_verbs.proofs.Lawful.{one_meaning}
use Rattle.fst_command.proofs.OneOutcome.{one_outcome}
use Rattle.fst_command.proofs.laws.one_outcome.Goals as goal

pub returns-clause-meanings : goal.returns-clause-meanings
returns-clause-meanings g plan given = one_meaning plan.command (rule_labels plan) plan.options given

pub returns-clause-outcomes : goal.returns-clause-outcomes
returns-clause-outcomes g = one_outcome
