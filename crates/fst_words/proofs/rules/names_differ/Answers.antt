use Rattle.std.proofs.Common.{◌∙◌, arith, sym, true, false}
use Rattle.fst_words.proofs.Pairs.{differ_at}
use Rattle.fst_words.proofs.rules.names_differ.Goals as goal

pub returns-then-stands_again : goal.returns-then-stands_again
returns-then-stands_again c =
    sym (c.loop-place.invariant
    ∙ differ_at c.args.names.now c.loop-place.place true (omega arith) (sym c.stands_again.ensures ∙ c.if-stands_again.true))

pub loop-place-preserved : goal.loop-place-preserved
loop-place-preserved c =
    c.loop-place.invariant
    ∙ differ_at c.args.names.now c.loop-place.place false (omega arith) (sym c.stands_again.ensures ∙ c.if-stands_again.false)
