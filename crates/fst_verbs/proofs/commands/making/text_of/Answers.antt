use Rattle.std.proofs.Common.{◌≡◌, ℤ, List, [], ◌∙◌, ap, fold, length, pos, ◌+ℤ◌, to_z, of_z, rules}
use Rattle.std.proofs.lemmas.Int.{to_z-of_z}
use mir.Syntax.{w128}
use mir.Val.{SFits}
use Rattle.fst_semiring.specs.Cost.{Cost}
use Rattle.fst_batch.specs.declared.answer.LineAnswer.{LineAnswer}
use Rattle.fst_verbs.specs.Making.{first_weights, total_lines}
use Rattle.fst_verbs.proofs.Describing.{followed-concat}
use Rattle.fst_verbs.proofs.Making.{told_alike}
use Rattle.fst_verbs.proofs.commands.making.text_of.Goals as goal

-- the calls from the last to the first
pub returns : goal.returns
returns c =
    let cascade = c.args.cascade.now in
    let report = c.args.report.now in
    let totals = c.totals_of-totals.result in
    let fits : SFits w128 totals.weights = search rules in
    let weights : ℤ = to_z w128 (of_z w128 totals.weights) in
    rw (c.into_bytes.ensures.value, c.in_ok-add_number-4.ensures, c.in_ok-add_number-3.ensures, c.in_ok-add_number-2.ensures, c.in_ok-add_number.ensures, c.in_ok-add_size-2.ensures, c.in_ok-add_size.ensures, c.new-text.ensures.bytes)
    (followed-concat [] (total_lines cascade.first cascade.second c.count.result totals.answered weights report.expansions)
    ∙ told_alike cascade.first cascade.second _ _ _ _ _ _ report.expansions c.count.ensures
    (c.totals_of-totals.ensures.answered ∙ ap (λ (xs : List (LineAnswer Cost)). length (first_weights xs)) c.as_slice.ensures.value)
    (to_z-of_z w128 totals.weights fits ∙ (c.totals_of-totals.ensures.weights ∙ ap (λ (xs : List (LineAnswer Cost)). fold ◌+ℤ◌ (pos 0) (first_weights xs)) c.as_slice.ensures.value)))
