use Rattle.std.proofs.Common.{◌≡◌, ◌∙◌, false, true, length, subst, sym, arith, ℕ, rules}
use Rattle.fst_semiring.specs.Keys.{key_cmp}
use Rattle.fst_queue.specs.Heap.{key_in, NoWorse}
use Rattle.fst_queue.specs.HeapOrder.{Falling}
use Rattle.fst_queue.proofs.Exchange.{SamePresent-trans}
use Rattle.fst_queue.proofs.HeapKeys.{better_NoWorse, key_total, keys_exchanged, not_better_NoWorse}
use Rattle.fst_queue.proofs.HeapOrder.{fallen, falls}
use Rattle.fst_queue.proofs.heap.fall.Goals as goal

pub returns-then-not-is_better_in-clause-ordered : goal.returns-then-not-is_better_in-clause-ordered
returns-then-not-is_better_in-clause-ordered c =
    let keys = c.args.keys.now.items in
    let heap = c.loop-below.heap.items in
    let worse : false ≡ c.is_better_in.result = search rules in
    fallen key_cmp key_total (length heap) (key_in keys heap) c.loop-below.at c.in-Some.below c.loop-below.invariant.falling c.in-Some.ensures (not_better_NoWorse (key_in keys heap c.in-Some.below) (key_in keys heap c.loop-below.at) (worse ∙ c.is_better_in.ensures))

pub loop-below-preserved : goal.loop-below-preserved
loop-below-preserved c =
    let keys = c.args.keys.now.items in
    let old = c.loop-below.heap.items in
    let new = c.exchange.new.heap.items in
    let at = c.loop-below.at in
    let below = c.in-Some.below in
    let better : true ≡ c.is_better_in.result = search rules in
    let no_worse : NoWorse (key_in keys old below) (key_in keys old at) = better_NoWorse (key_in keys old below) (key_in keys old at) (better ∙ c.is_better_in.ensures) in
    let ens = c.exchange.ensures in
    record {
      linked = ens.linked (length keys) c.loop-below.invariant.linked;
      within = omega (arith, ens.len, c.in-Some.ensures.1);
      falling = subst (λ (n : ℕ). Falling key_cmp n (key_in keys new) below) (sym ens.len) (falls key_cmp key_total (length old) (key_in keys old) (key_in keys new) at below (keys_exchanged keys old new at below ens.at_a ens.at_b ens.others) c.loop-below.invariant.falling c.in-Some.ensures no_worse);
      same = SamePresent-trans _ _ _ c.loop-below.invariant.same ens.same;
    }
