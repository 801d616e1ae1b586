use Rattle.std.proofs.Common.{◌∙◌, refl, sym}
use Rattle.fst_replace.specs.Rules.{labels_of}
use Rattle.fst_replace.proofs.Entries.{free, taken}
use Rattle.fst_replace.proofs.rule.Rules.add.Goals as goal

pub returns-then-is_some-clause-taken : goal.returns-then-is_some-clause-taken
returns-then-is_some-clause-taken g c =
    ((λ e. taken (labels_of c.args.self.now) c.args.rule.label c.place.result c.place.ensures.value (sym c.is_some.ensures ∙ c.if-is_some.true)), (λ h. refl))

pub returns-in_default-clause-taken : goal.returns-in_default-clause-taken
returns-in_default-clause-taken g c =
    ((λ e. absurd (cc)), (λ h. absurd (free (labels_of c.args.self.now) c.args.rule.label c.place.result c.place.ensures.value (sym c.is_some.ensures ∙ c.if-is_some.false) h)))

pub returns-clause-taken : goal.returns-clause-taken
returns-clause-taken g c =
    ((λ e. absurd (cc)), (λ h. absurd (free (labels_of c.args.self.now) c.args.rule.label c.place.result c.place.ensures.value (sym c.is_some.ensures ∙ c.if-is_some.false) h)))
