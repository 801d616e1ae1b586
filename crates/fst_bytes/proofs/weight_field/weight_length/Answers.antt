use Rattle.std.proofs.Common.{◌≡◌, sym, ap, ◌∙◌, arith}
use Rattle.fst_semiring.specs.declared.key.Key.{Key}
use Rattle.fst_semiring.specs.Cost.{class_of}
use Rattle.fst_bytes.specs.Reading.{number_count}
use Rattle.fst_bytes.proofs.Lengths.{length-by_class, length-by_number}
use Rattle.fst_bytes.proofs.weight_field.weight_length.Goals as goal

pub returns-in-Some-clause-value : goal.returns-in-Some-clause-value
returns-in-Some-clause-value g c = sym (length-by_number g.W.Weight.KIND (g.W.Weight.value c.args.weight) c.in-Some._number (sym c.single_number.ensures ∙ c.in-Some.is))

pub returns-in-None-clause-value : goal.returns-in-None-clause-value
returns-in-None-clause-value g c =
    let class : class_of (g.W.Weight.value c.args.weight) ≡ 1 = ap class_of (sym c.widen-wide.ensures.same) ∙ sym (ap (λ (key : Key). key.class) c.key.ensures) ∙ c.if-key-eq1.true in
    let numbers = length-by_class g.W.Weight.KIND (g.W.Weight.value c.args.weight) class in
    let count : c.count_of_numbers.result ≡ number_count g.W.Weight.KIND = c.count_of_numbers.ensures ∙ ap number_count c.KIND.ensures in
    omega (arith, numbers, count)
