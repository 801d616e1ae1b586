use Rattle.std.proofs.Common.{◌∙◌, sym, ap, arith, List, ℕ}
use Rattle.std.specs.Str.{bytes_eq}
use Rattle.fst_words.specs.Verbs.{verb_named}
use Rattle.fst_words.proofs.Searched.{row_fails, row_passes, rows_end}
use Rattle.fst_words.proofs.verb.verb_named.Goals as goal

pub loop-row-preserved : goal.loop-row-preserved
loop-row-preserved c =
    let spelled = ap (λ (n : List ℕ). bytes_eq n c.args.name.now) (sym c.name.ensures ∙ sym c.as_bytes.ensures.value) in
    row_fails c.loop-row.invariant _ (omega arith) (spelled ∙ (sym c.eq.ensures ∙ c.if-eq.false))

pub returns-then-eq : goal.returns-then-eq
unfolding verb_named
returns-then-eq c =
    let spelled = ap (λ (n : List ℕ). bytes_eq n c.args.name.now) (sym c.name.ensures ∙ sym c.as_bytes.ensures.value) in
    row_passes c.loop-row.invariant _ (omega arith) (spelled ∙ (sym c.eq.ensures ∙ c.if-eq.true))

pub returns : goal.returns
unfolding verb_named
returns c = rows_end c.loop-row.invariant (omega arith)
