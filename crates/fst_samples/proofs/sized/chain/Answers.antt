use Rattle.std.proofs.Common.{arith}
use Rattle.fst_samples.proofs.Growing.{arc_added, final_set, state_added}
use Rattle.fst_samples.proofs.sized.chain.Goals as goal

pub loop-preserved : goal.loop-preserved
loop-preserved c =
    let grown = state_added c.loop.fst c.add_state-in-loop.new.self c.in_ok-next.ensures.zero.0 c.in_ok-next.ensures.zero.2 in
    let kept = arc_added c.add_state-in-loop.new.self c.add_arc.new.self _ c.loop.last (omega (arith, grown, c.loop.invariant.0, c.loop.invariant.1)) c.in_ok-add_arc.ensures.ok in
    (omega (arith, grown, kept, c.loop.invariant.0), omega (arith, c.in_ok-next.ensures.number, c.loop.invariant.0))

pub returns : goal.returns
returns c =
    let kept = final_set c.loop.fst c.set_final.new.self c.one-2.result c.loop.last (omega (arith, c.loop.invariant.0, c.loop.invariant.1)) c.set_final.ensures in
    omega (arith, kept, c.loop.invariant.0, c.loop-test.false, c.loop.auto.counter-end)
