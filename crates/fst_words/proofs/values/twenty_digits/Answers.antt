use Rattle.std.proofs.Common.{◌≡◌, ◌∙◌, arith, sym, ap, None, Some, drop, take, refl}
use Rattle.fst_fields.specs.Decimal.{natural_of_text}
use Rattle.fst_words.proofs.Digits.{one_digit_more}
use Rattle.fst_words.proofs.values.twenty_digits.Goals as goal

pub returns-in_err-last : goal.returns-in_err-last
returns-in_err-last c =
    let ds = c.args.digits.now in
    let front : natural_of_text 19 (take 19 ds) ≡ Some c.in_ok-front.front = ap (natural_of_text 19) (sym c.split_at.ensures.front) ∙ sym c.in_ok-front.ensures.value in
    let last : natural_of_text 1 (drop 19 ds) ≡ None = ap (natural_of_text 1) (sym c.split_at.ensures.back) ∙ sym c.in_err-last.ensures.value in
    rw (one_digit_more 19 ds (omega arith) c.requires, front, last) c.from_residual-in_err-last.ensures

pub returns : goal.returns
returns c =
    let ds = c.args.digits.now in
    let front : natural_of_text 19 (take 19 ds) ≡ Some c.in_ok-front.front = ap (natural_of_text 19) (sym c.split_at.ensures.front) ∙ sym c.in_ok-front.ensures.value in
    let last : natural_of_text 1 (drop 19 ds) ≡ Some c.in_ok-last.last = ap (natural_of_text 1) (sym c.split_at.ensures.back) ∙ sym c.in_ok-last.ensures.value in
    rw (one_digit_more 19 ds (omega arith) c.requires, front, last, c.from.ensures, c.from-2.ensures) refl
