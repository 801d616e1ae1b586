use Rattle.std.proofs.Common.{List, Ok, Err, map, ap, ◌∙◌, refl, subst}
use Rattle.fst_machine.specs.Machine.{Machine, valued}
use Rattle.fst_semiring.specs.Cost.{Cost}
use Rattle.fst_replace.specs.Answers.{IsLimited, Recurs}
use Rattle.fst_replace.specs.Expansion.{replaced}
use Rattle.fst_replace.specs.Relation.{Replaces}
use Rattle.fst_replace.specs.Rules.{Labelled, valued_rules}
use Rattle.fst_words.specs.Plans.{rule_labels}
use Rattle.fst_verbs.specs.Replacing.{ruled}
use Rattle.fst_verbs.proofs.Replaced.{replaced_passes, unreplaced_declines}
use Rattle.fst_verbs.proofs.Rules.{ruled_valued}
use Rattle.fst_verbs.proofs.commands.replacing.expanded.Goals as goal

pub returns-in-Ok : goal.returns-in-Ok
returns-in-Ok g c =
    let value = g.W.Weight.value in
    let labels = rule_labels c.args.plan.now in
    let all = ruled labels (map (valued value) c.args.list.now) in
    let rules = ap (valued_rules value) c.in_ok-rules.ensures ∙ ruled_valued value labels c.args.list.now in (
      replaced_passes all c.in-Ok.made (subst (λ (rs : List (Labelled Cost)). Recurs rs (Ok c.in-Ok.made)) rules c.in-Ok.ensures.recursive) (subst (λ (rs : List (Labelled Cost)). IsLimited rs (Ok c.in-Ok.made)) rules c.in-Ok.ensures.limits),
      (refl, (c.in-Ok.ensures.machine ∙ ap replaced rules, subst (λ (rs : List (Labelled Cost)). Replaces g.W.Weight.KIND rs (valued value c.in-Ok.made)) rules c.in-Ok.ensures.relation)),
    )

pub returns : goal.returns
returns g c =
    let value = g.W.Weight.value in
    let labels = rule_labels c.args.plan.now in
    let all = ruled labels (map (valued value) c.args.list.now) in
    let rules = ap (valued_rules value) c.in_ok-rules.ensures ∙ ruled_valued value labels c.args.list.now in
    unreplaced_declines (Machine g.row.W.Denot) all c.in-Err.fault c.unreplaced.result (subst (λ (rs : List (Labelled Cost)). Recurs {X = Machine g.row.W.Denot} rs (Err c.in-Err.fault)) rules c.in-Err.ensures.recursive)
    (subst (λ (rs : List (Labelled Cost)). IsLimited {X = Machine g.row.W.Denot} rs (Err c.in-Err.fault)) rules c.in-Err.ensures.limits) c.unreplaced.ensures.made c.unreplaced.ensures.memory
