use Rattle.std.proofs.Common.{◌+◌, ap, ◌∙◌, arith}
use Rattle.std.proofs.lemmas.List.{length-set}
use Rattle.fst_rational.proofs.Counting.{counted_one}
use Rattle.fst_rational.proofs.reversal.count_arcs.Goals as goal

pub overflow_add-index_mut : goal.overflow_add-index_mut
overflow_add-index_mut g c =
    let is = counted_one c.args.arcs.now c.loop-arc.arc-index c.arc-item.result c.arc.inside.next c.index_mut.result.now c.loop-arc.counts.items c.args.counts.now.items c.loop-arc-test.true c.arc-item.is (ap (λ x. x.next) c.arc.view_is) c.requires.within c.loop-arc.invariant.rest c.loop-arc.invariant.size c.index_mut.ensures.value in
    omega (arith, is.more, c.requires.few (1 + c.arc.inside.next))

pub loop-arc-preserved : goal.loop-arc-preserved
loop-arc-preserved g c =
    let is = counted_one c.args.arcs.now c.loop-arc.arc-index c.arc-item.result c.arc.inside.next c.index_mut.result.now c.loop-arc.counts.items c.args.counts.now.items c.loop-arc-test.true c.arc-item.is (ap (λ x. x.next) c.arc.view_is) c.requires.within c.loop-arc.invariant.rest c.loop-arc.invariant.size c.index_mut.ensures.value in
    record {
      rest = is.rest;
      size = length-set c.loop-arc.counts.items _ _ ∙ c.loop-arc.invariant.size;
    }
