use Rattle.std.proofs.Common.{◌≡◌, take}
use Rattle.fst_machine.specs.Machine.{changed}
use Rattle.fst_batch.specs.Filling.{filled}
use Rattle.fst_batch.proofs.filling.fill_state.Given as goal

-- the state has the arcs so far
abbrev pub invariant-loop-arc : goal.invariant-loop-arc
invariant-loop-arc g l = l.fst ≡ record { start = l.fn.fst.start; states = changed (filled l.fn.last (take l.arc-index l.arcs)) l.fn.fst.states l.state }
