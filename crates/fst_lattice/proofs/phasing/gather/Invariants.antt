use Rattle.fst_lattice.proofs.Gathering.{AreGathering}
use Rattle.fst_lattice.proofs.phasing.gather.Given as goal

abbrev pub invariant-loop-worker : goal.invariant-loop-worker
invariant-loop-worker g l = AreGathering l.claims l.initial.pass l.initial.cache l.initial.workers l.pass l.cache l.workers l.worker-index
