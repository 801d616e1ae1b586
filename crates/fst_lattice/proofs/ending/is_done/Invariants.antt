use Rattle.std.proofs.Common.{◌≡◌, ◌<◌, ℕ, Some, slice_get}
use Rattle.fst_lattice.specs.Walks.{IsOver, LineWalk}
use Rattle.fst_lattice.proofs.ending.is_done.Given as goal

abbrev pub invariant-loop-place : goal.invariant-loop-place
invariant-loop-place g l = (k : ℕ) (j : LineWalk) → k < l.place → slice_get l.worker.jobs k ≡ Some j → IsOver j
