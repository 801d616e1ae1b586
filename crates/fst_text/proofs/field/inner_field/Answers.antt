use Rattle.std.proofs.Common.{sym, subst}
use Rattle.fst_text.specs.FirstLine.{GoesOn}
use Rattle.fst_text.proofs.field.inner_field.Goals as goal

pub returns-else-ended-clause-field : goal.returns-else-ended-clause-field
returns-else-ended-clause-field c = λ fields rest h.
    c.in_ok-field.ensures.field fields rest (subst (λ b. GoesOn b c.in_ok-field.rest.now fields rest) (sym c.if-ended.false) h)
