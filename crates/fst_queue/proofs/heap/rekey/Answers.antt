use Rattle.std.proofs.Common.{◌≡◌, ◌∙◌, ◌+◌, ◌-◌, true, false, get_or, subst, arith, rules}
use Rattle.std.proofs.lemmas.Grind.{get_or_default_zero}
use Rattle.std.proofs.lemmas.List.{get_or_default}
use Rattle.fst_queue.specs.Heap.{key_at, no_key, NoWorse}
use Rattle.fst_queue.proofs.HeapKeys.{better_NoWorse, not_better_NoWorse}
use Rattle.fst_queue.proofs.HeapPuts.{rekey_within, rekeyed_adds, rekeyed_falling, rekeyed_rising}
use Rattle.fst_queue.proofs.heap.rekey.Goals as goal

pub rise-requires-clause-within : goal.rise-requires-clause-within
rise-requires-clause-within c =
    let there : c.index.result.now ≡ get_or c.args.places.now.items c.args.state 0 = c.index.ensures ∙ get_or_default_zero c.args.places.now.items c.args.state c.index.result.now c.requires.place in
    let present : get_or c.args.places.now.items c.args.state 0 ≡ (c.index.result.now - 1) + 1 = omega (arith, there, c.requires.present) in
    rekey_within c.args.heap.now.items c.args.places.now.items c.args.keys.now.items c.args.state c.args.key c.requires.heaped c.requires.place c.requires.low (c.index.result.now - 1) present

pub fall-requires-clause-within : goal.fall-requires-clause-within
fall-requires-clause-within c =
    let there : c.index.result.now ≡ get_or c.args.places.now.items c.args.state 0 = c.index.ensures ∙ get_or_default_zero c.args.places.now.items c.args.state c.index.result.now c.requires.place in
    let present : get_or c.args.places.now.items c.args.state 0 ≡ (c.index.result.now - 1) + 1 = omega (arith, there, c.requires.present) in
    rekey_within c.args.heap.now.items c.args.places.now.items c.args.keys.now.items c.args.state c.args.key c.requires.heaped c.requires.place c.requires.low (c.index.result.now - 1) present

pub rise-requires-clause-rising : goal.rise-requires-clause-rising
rise-requires-clause-rising c =
    let there : c.index.result.now ≡ get_or c.args.places.now.items c.args.state 0 = c.index.ensures ∙ get_or_default_zero c.args.places.now.items c.args.state c.index.result.now c.requires.place in
    let present : get_or c.args.places.now.items c.args.state 0 ≡ (c.index.result.now - 1) + 1 = omega (arith, there, c.requires.present) in
    let old : c.index-before.result.now ≡ key_at c.args.keys.now.items c.args.state = c.index-before.ensures ∙ get_or_default c.args.keys.now.items c.args.state c.index-before.result.now no_key c.requires.low in
    let better : true ≡ c.is_better.result = search rules in
    let no_worse : NoWorse c.args.key (key_at c.args.keys.now.items c.args.state) = subst (λ k. NoWorse c.args.key k) old (better_NoWorse c.args.key c.index-before.result.now (better ∙ c.is_better.ensures)) in
    rekeyed_rising c.args.heap.now.items c.args.places.now.items c.args.keys.now.items c.args.state c.args.key c.requires.heaped c.requires.place c.requires.low (c.index.result.now - 1) present no_worse

pub fall-requires-clause-falling : goal.fall-requires-clause-falling
fall-requires-clause-falling c =
    let there : c.index.result.now ≡ get_or c.args.places.now.items c.args.state 0 = c.index.ensures ∙ get_or_default_zero c.args.places.now.items c.args.state c.index.result.now c.requires.place in
    let present : get_or c.args.places.now.items c.args.state 0 ≡ (c.index.result.now - 1) + 1 = omega (arith, there, c.requires.present) in
    let old : c.index-before.result.now ≡ key_at c.args.keys.now.items c.args.state = c.index-before.ensures ∙ get_or_default c.args.keys.now.items c.args.state c.index-before.result.now no_key c.requires.low in
    let worse : false ≡ c.is_better.result = search rules in
    let no_better : NoWorse (key_at c.args.keys.now.items c.args.state) c.args.key = subst (λ k. NoWorse k c.args.key) old (not_better_NoWorse c.args.key c.index-before.result.now (worse ∙ c.is_better.ensures)) in
    rekeyed_falling c.args.heap.now.items c.args.places.now.items c.args.keys.now.items c.args.state c.args.key c.requires.heaped c.requires.place c.requires.low (c.index.result.now - 1) present no_better

pub returns-then-is_better-clause-adds : goal.returns-then-is_better-clause-adds
returns-then-is_better-clause-adds c =
    let there : c.index.result.now ≡ get_or c.args.places.now.items c.args.state 0 = c.index.ensures ∙ get_or_default_zero c.args.places.now.items c.args.state c.index.result.now c.requires.place in
    let present : get_or c.args.places.now.items c.args.state 0 ≡ (c.index.result.now - 1) + 1 = omega (arith, there, c.requires.present) in
    rekeyed_adds c.args.heap.now.items c.args.places.now.items c.args.keys.now.items c.args.state c.args.key c.requires.heaped c.requires.place c.requires.low (c.index.result.now - 1) present c.rise.new.heap.items c.rise.new.places.items _ c.rise.ensures.linked c.rise.ensures.same

pub returns-else-is_better-clause-adds : goal.returns-else-is_better-clause-adds
returns-else-is_better-clause-adds c =
    let there : c.index.result.now ≡ get_or c.args.places.now.items c.args.state 0 = c.index.ensures ∙ get_or_default_zero c.args.places.now.items c.args.state c.index.result.now c.requires.place in
    let present : get_or c.args.places.now.items c.args.state 0 ≡ (c.index.result.now - 1) + 1 = omega (arith, there, c.requires.present) in
    rekeyed_adds c.args.heap.now.items c.args.places.now.items c.args.keys.now.items c.args.state c.args.key c.requires.heaped c.requires.place c.requires.low (c.index.result.now - 1) present c.fall.new.heap.items c.fall.new.places.items _ c.fall.ensures.linked c.fall.ensures.same
