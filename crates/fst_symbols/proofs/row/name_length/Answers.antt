use Rattle.std.proofs.Common.{sym, arith}
use Rattle.std.proofs.lemmas.List.Sums.{position_or_len_is}
use Rattle.std.proofs.lemmas.Bool.{false_from_ne_true}
use Rattle.fst_fields.specs.Lines.{is_separator}
use Rattle.fst_symbols.proofs.row.name_length.Goals as goal

pub returns-in-Some-clause-value : goal.returns-in-Some-clause-value
returns-in-Some-clause-value c =
    let h = c.in-Some.ensures in
    sym (position_or_len_is is_separator c.args.line.now _ 0 (omega (arith, h.0.high)) (λ k below. false_from_ne_true _ (h.0.before k (omega arith) below)) (λ past. h.1))

pub returns-in-None-clause-value : goal.returns-in-None-clause-value
returns-in-None-clause-value c =
    let h = c.in-None.ensures in
    sym (position_or_len_is is_separator c.args.line.now _ 0 (omega arith) (λ k below. false_from_ne_true _ (h k (omega arith) below)) (λ past. absurd (omega arith)))
