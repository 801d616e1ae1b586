use Rattle.std.proofs.Common.{arith}
use Rattle.fst_nbest.proofs.Sweeps.{low_arc}
use Rattle.fst_nbest.proofs.sweeping.order_of.Goals as goal

pub let_go-requires-clause-within : goal.let_go-requires-clause-within
let_go-requires-clause-within g c k d low =
    let m = g.M.AsMachine.machine c.args.fst.now in
    let next = low_arc g.M.AsMachine.value m c.state_count-states.ensures.good c.index-state.result.now c.arcs_at.result.now c.arcs_at.ensures k d low in
    omega (arith, next, c.loop-taken.invariant.size)
