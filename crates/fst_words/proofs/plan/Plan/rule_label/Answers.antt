use Rattle.std.proofs.Common.{◌≡◌, None, Some, arith}
use Rattle.fst_words.specs.Values.{label_of}
use Rattle.fst_words.proofs.PlannedFiles.{has_label, has_place, rule_label_at}
use Rattle.fst_words.proofs.plan.Plan.rule_label.Goals as goal

pub prove-unreachable-requires : goal.prove-unreachable-requires
prove-unreachable-requires c =
    let place = has_place c.args.self.now c.args.place c.requires.whole c.requires.within in
    omega arith

pub unreachable-requires : goal.unreachable-requires
unreachable-requires c =
    let none : label_of c.item.result.now ≡ None = cc in
    has_label c.args.self.now c.args.place c.item.result.now c.requires.whole c.requires.within c.item.ensures none

pub overflow_cast-result : goal.overflow_cast-result
overflow_cast-result c = omega (arith, c.in-Some.ensures)

pub returns-clause-label : goal.returns-clause-label
returns-clause-label c =
    let some : label_of c.item.result.now ≡ Some c.in-Some.label = cc in
    rule_label_at c.args.self.now c.args.place c.item.result.now (Some c.in-Some.label) c.requires.whole c.requires.within c.item.ensures some
