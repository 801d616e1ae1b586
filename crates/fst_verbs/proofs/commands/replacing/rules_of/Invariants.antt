use Rattle.std.proofs.Common.{◌≡◌, ◌≤◌, take}
use Rattle.fst_verbs.specs.Replacing.{ruled}
use Rattle.fst_words.specs.Plans.{rule_labels}
use Rattle.fst_verbs.proofs.commands.replacing.rules_of.Given as goal

abbrev pub invariant-loop-place : goal.invariant-loop-place
invariant-loop-place g l = record {
  rules : l.rules ≡ ruled (take l.place (rule_labels l.plan)) (take l.place l.list);
  few : 1 ≤ l.place;
}
