use Rattle.std.proofs.Common.{◌++◌, ◌∷◌, [], ℕ, List, Err, sym, ap, ◌∙◌, subst, arith}
use Rattle.fst_machine.specs.BreadthFirst.{Has}
use Rattle.fst_replace.specs.Rules.{labels_of}
use Rattle.fst_words.specs.Plans.{rule_labels}
use Rattle.fst_verbs.proofs.Rules.{fresh_rule, labels_ruled, ruled_all, ruled_next}
use Rattle.fst_verbs.proofs.commands.replacing.rules_of.Goals as goal

pub loop-place-init : goal.loop-place-init
loop-place-init g c =
    let plan = c.args.plan.now in
    let some = c.requires.some in
    record {
      rules = c.in_ok-rules.ensures ∙ sym (ruled_next (rule_labels plan) c.args.list.now 0 c.rule_label.result c.index-list-0.result c.rule_label.ensures.label (omega arith) c.index-list-0.is);
      few = omega arith;
    }

pub loop-place-preserved : goal.loop-place-preserved
loop-place-preserved g c =
    let plan = c.args.plan.now in
    let place = c.loop-place.place in
    let test = c.loop-place-test.true in
    record {
      rules = c.in-Ok.ensures.ok ∙ ap (λ rules. rules ++ record { label = c.rule_label-in-loop-place.result; machine = c.index-list-place.result } ∷ []) c.loop-place.invariant.rules
          ∙ sym (ruled_next (rule_labels plan) c.args.list.now place c.rule_label-in-loop-place.result c.index-list-place.result c.rule_label-in-loop-place.ensures.label (omega arith) c.index-list-place.is);
      few = omega (arith, c.loop-place.invariant.few);
    }

pub unreachable-requires : goal.unreachable-requires
unreachable-requires g c =
    let plan = c.args.plan.now in
    let labels = rule_labels plan in
    let label = c.rule_label-in-loop-place.result in
    let place = c.loop-place.place in
    let has = c.in-Err-LabelTaken.ensures.taken.0 (ap Err c.in-Err-LabelTaken.field-0-is) in
    let same = ap labels_of c.loop-place.invariant.rules ∙ labels_ruled labels c.args.list.now place (sym c.requires.all) in
    fresh_rule plan place label c.requires.rules c.requires.whole c.rule_label-in-loop-place.ensures.label (subst (λ (ls : List ℕ). Has ls label) same has)

pub returns : goal.returns
returns g c =
    let plan = c.args.plan.now in
    let all = c.requires.all in
    let test = c.loop-place-test.false in
    c.loop-place.invariant.rules ∙ ruled_all (rule_labels plan) c.args.list.now c.loop-place.place (omega arith) (omega arith)
