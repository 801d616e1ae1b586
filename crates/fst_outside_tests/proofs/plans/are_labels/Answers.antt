use Rattle.std.proofs.Common.{arith, ap}
use Rattle.fst_words.specs.declared.verb.Verb.{Verb}
use Rattle.fst_words.specs.Plans.{is_replace}
use Rattle.fst_words.proofs.PlannedFiles.{label_for_each}
use Rattle.fst_outside_tests.proofs.plans.are_labels.Goals as goal

pub rule_label-requires-clause-within : goal.rule_label-requires-clause-within
rule_label-requires-clause-within c =
    let replaces = ap (λ (verb : Verb). is_replace verb) c.requires.replaces in
    let count = label_for_each c.args.plan.now c.requires.whole replaces in
    omega arith
