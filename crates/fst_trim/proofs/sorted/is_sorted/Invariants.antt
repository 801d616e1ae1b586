use Rattle.std.proofs.Common.{ℕ, ◌<◌, get_or}
use Rattle.fst_machine.specs.Machine.{State}
use Rattle.fst_trim.specs.Sides.{StandsBy}
use Rattle.fst_trim.proofs.sorted.is_sorted.Given as goal

abbrev pub invariant-loop-state : goal.invariant-loop-state
invariant-loop-state g l = (k : ℕ) (d : State g.row.W.Denot) → k < l.state → StandsBy l.side (get_or l.a.states k d).arcs
