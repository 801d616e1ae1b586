use Rattle.std.proofs.Common.{take}
use Rattle.fst_lattice.specs.Lattice.{HasNoZero}
use Rattle.fst_lattice.proofs.job.has_no_zero.Given as goal

abbrev pub invariant-loop-b : goal.invariant-loop-b
invariant-loop-b l = HasNoZero (take l.b-index l.line)
