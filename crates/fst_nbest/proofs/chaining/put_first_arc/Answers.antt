use Rattle.std.proofs.Common.{◌++◌, List, ℕ, map, sym, ap, append-nil, ◌∙◌}
use Rattle.fst_semiring.specs.Cost.{Cost}
use Rattle.fst_machine.specs.Letters.{letter_of}
use Rattle.fst_machine.specs.Machine.{Arc, valued_arc}
use Rattle.fst_nbest.specs.Chains.{chain_at}
use Rattle.fst_nbest.proofs.Remaining.{arc_put, first_arc_none, first_arc_some}
use Rattle.fst_nbest.proofs.chaining.put_first_arc.Goals as goal

pub returns-then-letter_count-eq0 : goal.returns-then-letter_count-eq0
returns-then-letter_count-eq0 g c =
    let value = g.W.Weight.value in
    let chain = chain_at (g.C.ChainSource.chains c.args.source.now) c.args.chain in
    sym (append-nil (map (valued_arc value) c.args.own.now.items)) ∙ ap (λ (arcs : List (Arc Cost ℕ)). map (valued_arc value) c.args.own.now.items ++ arcs) (sym (first_arc_none c.args.next chain.letters (sym c.letter_count.ensures ∙ c.if-letter_count-eq0.true)))

pub returns : goal.returns
returns g c =
    let value = g.W.Weight.value in
    let chain = chain_at (g.C.ChainSource.chains c.args.source.now) c.args.chain in
    let a : Arc _ ℕ = record { ilabel = c.arc.inside.ilabel; olabel = c.arc.inside.olabel; weight = c.arc.inside.weight; next = c.arc.inside.next } in
    arc_put value c.args.own.now.items c.push.new.self.items a _ c.args.next _ (ap (λ (b : Arc _ ℕ). letter_of (valued_arc value b)) c.arc.view_is ∙ c.arc-arc.ensures)
    c.in_ok-push.ensures.items (sym (first_arc_some c.args.next chain.letters (λ e. c.if-letter_count-eq0.false (c.letter_count.ensures ∙ e))))
