use Rattle.std.proofs.Common.{sym, arith}
use Rattle.fst_text.proofs.Plain.{front-read}
use Rattle.fst_text.proofs.field.digits_in_front.Goals as goal

pub invariant_of-field : goal.invariant_of-field
invariant_of-field c =
    let end = c.leading_digits-end in
    sym (front-read c.args.text.now c.number_part.result.now end.result.0 end.result.1 c.number_part.ensures.part end.ensures.count end.ensures.number (omega (arith, c.if-end-eq0.false)) (omega (arith, end.ensures.bound, c.number_part.ensures.short)))

pub returns-clause-number : goal.returns-clause-number
returns-clause-number c =
    let end = c.leading_digits-end in (
      end.result.1,
      front-read c.args.text.now c.number_part.result.now end.result.0 end.result.1 c.number_part.ensures.part end.ensures.count end.ensures.number (omega (arith, c.if-end-eq0.false)) (omega (arith, end.ensures.bound, c.number_part.ensures.short)),
    )
