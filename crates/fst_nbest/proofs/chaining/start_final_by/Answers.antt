use Rattle.std.proofs.Common.{sym, ◌∙◌}
use Rattle.fst_nbest.specs.Chains.{chain_at}
use Rattle.fst_nbest.proofs.Remaining.{start_none, start_some}
use Rattle.fst_nbest.proofs.chaining.start_final_by.Goals as goal

pub returns-then-letter_count-eq0 : goal.returns-then-letter_count-eq0
returns-then-letter_count-eq0 g c =
    let value = g.W.Weight.value in
    let chain = chain_at (g.C.ChainSource.chains c.args.source.now) c.args.chain in
    start_none chain.letters (value c.args.so_far) chain.last (value c.last.result) (sym c.letter_count.ensures ∙ c.if-letter_count-eq0.true) c.last.ensures

pub returns-else-letter_count-eq0 : goal.returns-else-letter_count-eq0
returns-else-letter_count-eq0 g c =
    let value = g.W.Weight.value in
    let chain = chain_at (g.C.ChainSource.chains c.args.source.now) c.args.chain in
    start_some chain.letters (value c.args.so_far) chain.last (λ e. c.if-letter_count-eq0.false (c.letter_count.ensures ∙ e))
