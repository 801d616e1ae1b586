use Rattle.std.proofs.Common.{◌≡◌, map, take}
use Rattle.fst_lattice.proofs.answering.shares_of.Given as goal

abbrev pub invariant-loop-number : goal.invariant-loop-number
invariant-loop-number g l = map (λ s. s.jobs.now) l.shares.items ≡ map (λ w. w.jobs) (take l.number l.workers)
