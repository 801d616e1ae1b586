use Rattle.std.proofs.Common.{◌≡◌, ◌<◌, ℕ, Some, slice_get}
use Rattle.fst_lattice.specs.Phases.{Laborer}
use Rattle.fst_lattice.specs.Runs.{IsDone}
use Rattle.fst_lattice.proofs.ending.are_done.Given as goal

abbrev pub invariant-loop-worker : goal.invariant-loop-worker
invariant-loop-worker g l = (k : ℕ) (w : Laborer g.row.W-Wide.Denot g.row.M.Denot) → k < l.worker-index → slice_get l.workers k ≡ Some w → IsDone w
