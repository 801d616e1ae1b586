use Rattle.std.proofs.Common.{take}
use Rattle.std.specs.List.{AllZip}
use Rattle.fst_lattice.specs.Runs.{IsAnswerAt, job_lines}
use Rattle.fst_lattice.proofs.answering.answer_jobs.Given as goal

abbrev pub invariant-loop-job : goal.invariant-loop-job
invariant-loop-job g l = AllZip (IsAnswerAt (g.A.Answering.answers l.answering l.delayed) l.lines) (job_lines (take l.job-index l.jobs)) l.answers.items
