use Rattle.std.proofs.Common.{◌≡◌, ◌∷◌, [], Some, drop, slice_set, List, ℕ, ap, refl, sym, ◌∙◌, arith, append-nil, rules, FitsSigned, w64, to_z-of_z}
use Rattle.std.specs.Fmt.{signed_decimal}
use Rattle.std.proofs.lemmas.List.{drop-set, drop_all}
use Rattle.fst_semiring.specs.Semiring.{single_number}
use Rattle.fst_text.proofs.Digits.{text_of_number}
use Rattle.fst_text.proofs.line.write_weight.Goals as goal

pub returns-then-is_shown-clause-written : goal.returns-then-is_shown-clause-written
returns-then-is_shown-clause-written g c =
    let kind = g.W.Weight.KIND in
    let w = g.W.Weight.value c.args.weight in
    let n = c.in_ok-number.number in
    let is : single_number kind w ≡ Some n = sym c.in_ok-number.ensures in
    let text = text_of_number kind w n is in
    let end : drop 64 (slice_set c.args.line.now 64 10) ≡ 10 ∷ [] = drop-set c.args.line.now 64 10 (omega arith) ∙ ap (λ (rest : List ℕ). 10 ∷ rest) (drop_all 65 c.args.line.now (omega arith)) in
    let fits : FitsSigned w64 n = search rules in
    let back = to_z-of_z fits in
    rw (c.write_signed_field.ensures.written, end, (rw c.if-is_shown.true at c.is_shown.ensures), text, append-nil (signed_decimal n), back) refl

pub returns-else-is_shown-clause-written : goal.returns-else-is_shown-clause-written
returns-else-is_shown-clause-written g c =
    let end : drop 64 (slice_set c.args.line.now 64 10) ≡ 10 ∷ [] = drop-set c.args.line.now 64 10 (omega arith) ∙ ap (λ (rest : List ℕ). 10 ∷ rest) (drop_all 65 c.args.line.now (omega arith)) in
    rw (end, (rw c.if-is_shown.false at c.is_shown.ensures)) refl
