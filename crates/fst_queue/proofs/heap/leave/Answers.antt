use Rattle.std.proofs.Common.{◌≡◌, ◌∙◌, ◌+◌, ◌-◌, ◌<◌, length, get_or, sym, arith, rules}
use Rattle.std.proofs.lemmas.Grind.{get_or_default_zero}
use Rattle.fst_queue.proofs.HeapTakes.{fallen_takes, first_best, left_falling, left_heaped, left_linked, left_takes}
use Rattle.fst_queue.proofs.heap.leave.Goals as goal

pub returns-then-last-gt0-clause-best : goal.returns-then-last-gt0-clause-best
returns-then-last-gt0-clause-best c =
    let some : 0 < length c.args.heap.now.items = search rules in
    let state : get_or c.args.heap.now.items 0 0 ≡ c.index-state.result.now = sym (get_or_default_zero c.args.heap.now.items 0 c.index-state.result.now some) ∙ sym c.index-state.ensures in
    first_best c.args.heap.now.items c.args.places.now.items c.args.keys.now.items c.requires c.index-state.result.now state some

pub returns-else-last-gt0-clause-best : goal.returns-else-last-gt0-clause-best
returns-else-last-gt0-clause-best c =
    let some : 0 < length c.args.heap.now.items = search rules in
    let state : get_or c.args.heap.now.items 0 0 ≡ c.index-state.result.now = sym (get_or_default_zero c.args.heap.now.items 0 c.index-state.result.now some) ∙ sym c.index-state.ensures in
    first_best c.args.heap.now.items c.args.places.now.items c.args.keys.now.items c.requires c.index-state.result.now state some

pub fall-requires-clause-linked : goal.fall-requires-clause-linked
fall-requires-clause-linked c =
    let some : 0 < length c.args.heap.now.items = search rules in
    let state : get_or c.args.heap.now.items 0 0 ≡ c.index-state.result.now = sym (get_or_default_zero c.args.heap.now.items 0 c.index-state.result.now some) ∙ sym c.index-state.ensures in
    let len : c.len-last.result ≡ length c.args.heap.now.items = search rules in
    let last : (c.len-last.result - 1) + 1 ≡ length c.args.heap.now.items = omega (arith, len, some) in
    let ens = c.exchange.ensures in
    let at_last : get_or c.exchange.new.heap.items (c.len-last.result - 1) 0 ≡ c.index-state.result.now = ens.at_b ∙ state in
    left_linked c.args.heap.now.items c.args.places.now.items c.args.keys.now.items c.requires c.index-state.result.now state some (c.len-last.result - 1) last c.exchange.new.heap.items c.exchange.new.places.items c.truncate.new.self.items (ens.linked (length c.args.keys.now.items) c.requires.linked) ens.same ens.len at_last ens.others c.truncate.ensures.items

pub fall-requires-clause-falling : goal.fall-requires-clause-falling
fall-requires-clause-falling c =
    let some : 0 < length c.args.heap.now.items = search rules in
    let state : get_or c.args.heap.now.items 0 0 ≡ c.index-state.result.now = sym (get_or_default_zero c.args.heap.now.items 0 c.index-state.result.now some) ∙ sym c.index-state.ensures in
    let len : c.len-last.result ≡ length c.args.heap.now.items = search rules in
    let last : (c.len-last.result - 1) + 1 ≡ length c.args.heap.now.items = omega (arith, len, some) in
    let ens = c.exchange.ensures in
    let at_last : get_or c.exchange.new.heap.items (c.len-last.result - 1) 0 ≡ c.index-state.result.now = ens.at_b ∙ state in
    left_falling c.args.heap.now.items c.args.places.now.items c.args.keys.now.items c.requires c.index-state.result.now state some (c.len-last.result - 1) last c.exchange.new.heap.items c.exchange.new.places.items c.truncate.new.self.items (ens.linked (length c.args.keys.now.items) c.requires.linked) ens.same ens.len at_last ens.others c.truncate.ensures.items

pub returns-then-last-gt0-clause-takes : goal.returns-then-last-gt0-clause-takes
returns-then-last-gt0-clause-takes c =
    let some : 0 < length c.args.heap.now.items = search rules in
    let state : get_or c.args.heap.now.items 0 0 ≡ c.index-state.result.now = sym (get_or_default_zero c.args.heap.now.items 0 c.index-state.result.now some) ∙ sym c.index-state.ensures in
    let len : c.len-last.result ≡ length c.args.heap.now.items = search rules in
    let last : (c.len-last.result - 1) + 1 ≡ length c.args.heap.now.items = omega (arith, len, some) in
    let ens = c.exchange.ensures in
    let at_last : get_or c.exchange.new.heap.items (c.len-last.result - 1) 0 ≡ c.index-state.result.now = ens.at_b ∙ state in
    fallen_takes c.args.heap.now.items c.args.places.now.items c.args.keys.now.items c.requires c.index-state.result.now state some (c.len-last.result - 1) last c.exchange.new.heap.items c.exchange.new.places.items c.truncate.new.self.items (ens.linked (length c.args.keys.now.items) c.requires.linked) ens.same ens.len at_last ens.others c.truncate.ensures.items c.fall.new.heap.items c.fall.new.places.items c.fall.ensures.linked c.fall.ensures.same

pub returns-else-last-gt0-clause-takes : goal.returns-else-last-gt0-clause-takes
returns-else-last-gt0-clause-takes c =
    let some : 0 < length c.args.heap.now.items = search rules in
    let state : get_or c.args.heap.now.items 0 0 ≡ c.index-state.result.now = sym (get_or_default_zero c.args.heap.now.items 0 c.index-state.result.now some) ∙ sym c.index-state.ensures in
    let len : c.len-last.result ≡ length c.args.heap.now.items = search rules in
    let last : (c.len-last.result - 1) + 1 ≡ length c.args.heap.now.items = omega (arith, len, some) in
    let ens = c.exchange.ensures in
    let at_last : get_or c.exchange.new.heap.items (c.len-last.result - 1) 0 ≡ c.index-state.result.now = ens.at_b ∙ state in
    left_takes c.args.heap.now.items c.args.places.now.items c.args.keys.now.items c.requires c.index-state.result.now state some (c.len-last.result - 1) last c.exchange.new.heap.items c.exchange.new.places.items c.truncate.new.self.items (ens.linked (length c.args.keys.now.items) c.requires.linked) ens.same ens.len at_last ens.others c.truncate.ensures.items

pub returns-else-last-gt0-clause-heaped : goal.returns-else-last-gt0-clause-heaped
returns-else-last-gt0-clause-heaped c =
    let some : 0 < length c.args.heap.now.items = search rules in
    let state : get_or c.args.heap.now.items 0 0 ≡ c.index-state.result.now = sym (get_or_default_zero c.args.heap.now.items 0 c.index-state.result.now some) ∙ sym c.index-state.ensures in
    let len : c.len-last.result ≡ length c.args.heap.now.items = search rules in
    let last : (c.len-last.result - 1) + 1 ≡ length c.args.heap.now.items = omega (arith, len, some) in
    let ens = c.exchange.ensures in
    let at_last : get_or c.exchange.new.heap.items (c.len-last.result - 1) 0 ≡ c.index-state.result.now = ens.at_b ∙ state in
    left_heaped c.args.heap.now.items c.args.places.now.items c.args.keys.now.items c.requires c.index-state.result.now state some (c.len-last.result - 1) last c.exchange.new.heap.items c.exchange.new.places.items c.truncate.new.self.items (ens.linked (length c.args.keys.now.items) c.requires.linked) ens.same ens.len at_last ens.others c.truncate.ensures.items (search (rules, arith))
