use Rattle.std.proofs.Common.{◌≡◌, get_or, ◌∙◌, sym}
use Rattle.std.proofs.lemmas.Grind.{get_or_default_zero}
use Rattle.fst_queue.proofs.Exchange.{exchange_linked, exchange_same}
use Rattle.fst_queue.proofs.heap.exchange.Goals as goal

pub returns-clause-linked : goal.returns-clause-linked
returns-clause-linked c size linked =
    let first : get_or c.args.heap.now.items c.args.a 0 ≡ c.index-first.result.now = sym (get_or_default_zero c.args.heap.now.items c.args.a c.index-first.result.now c.requires.a_within) ∙ sym c.index-first.ensures in
    let second : get_or c.args.heap.now.items c.args.b 0 ≡ c.index-second.result.now = sym (get_or_default_zero c.args.heap.now.items c.args.b c.index-second.result.now c.requires.b_within) ∙ sym c.index-second.ensures in
    exchange_linked c.args.heap.now.items c.args.places.now.items size c.args.a c.args.b _ _ linked c.requires.a_within c.requires.b_within first second

pub returns-clause-same : goal.returns-clause-same
returns-clause-same c =
    let first : get_or c.args.heap.now.items c.args.a 0 ≡ c.index-first.result.now = sym (get_or_default_zero c.args.heap.now.items c.args.a c.index-first.result.now c.requires.a_within) ∙ sym c.index-first.ensures in
    let second : get_or c.args.heap.now.items c.args.b 0 ≡ c.index-second.result.now = sym (get_or_default_zero c.args.heap.now.items c.args.b c.index-second.result.now c.requires.b_within) ∙ sym c.index-second.ensures in
    exchange_same c.args.heap.now.items c.args.places.now.items c.requires.linked.0 c.args.a c.args.b _ _ c.requires.linked.1 c.requires.a_within c.requires.b_within first second
