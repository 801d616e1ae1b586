use Rattle.std.proofs.Common.{◌≡◌, ◌∙◌, ◌/◌, ◌-◌, true, length, subst, sym, arith, ℕ, rules}
use Rattle.fst_semiring.specs.Keys.{key_cmp}
use Rattle.fst_queue.specs.Heap.{key_in, NoWorse}
use Rattle.fst_queue.specs.HeapOrder.{IsBelow, Rising}
use Rattle.fst_queue.proofs.Exchange.{SamePresent-trans}
use Rattle.fst_queue.proofs.HeapKeys.{better_NoWorse, key_total, keys_exchanged}
use Rattle.fst_queue.proofs.HeapOrder.{rises}
use Rattle.fst_queue.proofs.heap.rise.Goals as goal

pub loop-at-preserved : goal.loop-at-preserved
loop-at-preserved c =
    let keys = c.args.keys.now.items in
    let old = c.loop-at.heap.items in
    let new = c.exchange.new.heap.items in
    let above : ℕ = (c.loop-at.at - 1) / 2 in
    let better : true ≡ c.is_better_in.result = search rules in
    let no_worse : NoWorse (key_in keys old c.loop-at.at) (key_in keys old above) = better_NoWorse (key_in keys old c.loop-at.at) (key_in keys old above) (better ∙ c.is_better_in.ensures) in
    let below : IsBelow above c.loop-at.at = (omega arith, omega arith) in
    let ens = c.exchange.ensures in
    record {
      linked = ens.linked (length keys) c.loop-at.invariant.linked;
      within = omega (arith, ens.len, c.loop-at.invariant.within);
      rising = subst (λ (n : ℕ). Rising key_cmp n (key_in keys new) above) (sym ens.len) (rises key_cmp key_total (length old) (key_in keys old) (key_in keys new) above c.loop-at.at (keys_exchanged keys old new above c.loop-at.at ens.at_a ens.at_b ens.others) c.loop-at.invariant.rising below c.loop-at.invariant.within no_worse);
      same = SamePresent-trans _ _ _ c.loop-at.invariant.same ens.same;
    }
