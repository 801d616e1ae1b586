use Rattle.std.proofs.Common.{◌≡◌, ◌-◌}
use Rattle.fst_lattice.specs.Runs.{IsDealt, job_lines, run}
use Rattle.fst_lattice.proofs.dealing.fill.Given as goal

abbrev pub invariant-loop-index : goal.invariant-loop-index
invariant-loop-index g l = record {
  dealt : IsDealt g.W.Weight.KIND g.W.Weight.value g.W.Weight.wide_value l.delayed l.lines l.limit l.fn.worker l.worker;
  lines : job_lines l.worker.jobs ≡ run l.from (l.index - l.from);
}
