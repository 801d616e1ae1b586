use Rattle.std.proofs.Common.{[], ◌∷◌, refl, sym, subst}
use Rattle.fst_text.specs.FirstLine.{GoesOn}
use Rattle.fst_text.proofs.field.last_field.Goals as goal

pub returns-then-ends-clause-field : goal.returns-then-ends-clause-field
returns-then-ends-clause-field c =
    let rest = c.in_ok-field.rest.now in
    let ends = subst (λ b. GoesOn b rest [] rest) (sym c.if-ends.true) (refl, refl) in
    subst (λ b. GoesOn b c.args.text.now (c.in_ok-field.field ∷ []) rest) (sym c.if-ended.false) (c.in_ok-field.ensures.field [] rest ends)
