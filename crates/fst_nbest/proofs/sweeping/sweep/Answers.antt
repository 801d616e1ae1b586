use Rattle.std.proofs.Common.{◌≡◌, ◌-◌, ◌+◌, ◌<◌, ℕ, List, length, get_or, set, replicate, ap, subst, ◌∙◌, arith}
use Rattle.std.proofs.lemmas.List.{length-replicate}
use Rattle.fst_nbest.specs.Counts.{count_of, uncounted}
use Rattle.fst_nbest.specs.Sweep.{IsSwept}
use Rattle.fst_nbest.proofs.Sweeps.{blank_counts, sweep_begins, sweep_further, sweep_waits}
use Rattle.fst_nbest.proofs.sweeping.sweep.Goals as goal

pub loop-left-init : goal.loop-left-init
loop-left-init g c =
    let m = g.M.AsMachine.machine c.args.fst.now in
    let dist = c.in_ok-dist.dist.items in
    let count = c.in_ok-count.count.items in
    let n = c.state_count-states.result in
    let states : n ≡ length m.states = c.state_count-states.ensures.count in
    let blank : count ≡ replicate {A = ℕ} n uncounted = c.in_ok-count.ensures.items_if_clones_equal (λ y e. e) in
    let long : length count ≡ length m.states = ap (λ (l : List ℕ). length l) blank ∙ (length-replicate {A = ℕ} n uncounted ∙ states) in
    let steps : 0 ≡ length c.args.order.now - length c.args.order.now = omega arith in
    record {
      few = omega arith;
      swept = subst (λ (k : ℕ). IsSwept g.W.Weight.KIND g.M.AsMachine.value g.W.Weight.wide_value m k dist count) steps
          (sweep_begins g.W.Weight.KIND g.M.AsMachine.value g.W.Weight.wide_value m dist count (c.in_ok-dist.ensures.size ∙ states) long c.in_ok-dist.ensures.zero (λ q. ap (λ (l : List ℕ). count_of l q) blank ∙ blank_counts n q));
    }

pub loop-left-preserved-in-Some : goal.loop-left-preserved-in-Some
loop-left-preserved-in-Some g c =
    let m = g.M.AsMachine.machine c.args.fst.now in
    let dist = c.loop-left.dist.items in
    let count = c.loop-left.count.items in
    let order = c.args.order.now in
    let left = c.loop-left.left in
    let inv = c.loop-left.invariant in
    let few = inv.few in
    let more = c.loop-left-test.true in
    let short = c.requires.few in
    let q = get_or order (left - 1) 0 in
    let low : q < length m.states = c.requires.low (left - 1) 0 (omega (arith, few, more)) in
    let next : (length order - left) + 1 ≡ length order - (left - 1) = omega (arith, few, more) in
    record {
      few = omega (arith, few);
      swept = subst (λ (k : ℕ). IsSwept g.W.Weight.KIND g.M.AsMachine.value g.W.Weight.wide_value m k (set dist q c.in-Some.near.total) (set count q c.in-Some.near.arcs)) next
          (sweep_further g.W.Weight.KIND g.M.AsMachine.value g.W.Weight.wide_value m (length order - left) dist count inv.swept q c.in-Some.near.total c.in-Some.near.arcs low (omega (arith, short)) (c.in-Some.ensures (length order - left) inv.swept));
    }

pub loop-left-preserved : goal.loop-left-preserved
loop-left-preserved g c =
    let m = g.M.AsMachine.machine c.args.fst.now in
    let done = length c.args.order.now - c.loop-left.left in
    let few = c.loop-left.invariant.few in
    let more = c.loop-left-test.true in
    let next : done + 1 ≡ length c.args.order.now - (c.loop-left.left - 1) = omega (arith, few, more) in
    record {
      few = omega (arith, few);
      swept = subst (λ (k : ℕ). IsSwept g.W.Weight.KIND g.M.AsMachine.value g.W.Weight.wide_value m k c.loop-left.dist.items c.loop-left.count.items) next
          (sweep_waits g.W.Weight.KIND g.M.AsMachine.value g.W.Weight.wide_value m done c.loop-left.dist.items c.loop-left.count.items c.loop-left.invariant.swept);
    }
