use Rattle.std.proofs.Common.{ℕ}
use Rattle.fst_nbest.specs.Sweep.{IsAheadBelow, IsSwept}
use Rattle.fst_nbest.proofs.sweeping.ahead.Given as goal

abbrev pub invariant-loop-arc : goal.invariant-loop-arc
invariant-loop-arc g l =
    let kind = g.W.Weight.KIND in
    let value = g.M.AsMachine.value in
    let wide = g.W.Weight.wide_value in
    let m = g.M.AsMachine.machine l.fst in
    (steps : ℕ) → IsSwept kind value wide m steps l.dist.items l.count.items → IsAheadBelow kind value m steps l.count.items l.arc-index l.state (wide l.best.total) l.best.arcs
