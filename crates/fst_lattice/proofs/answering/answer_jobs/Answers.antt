use Rattle.std.proofs.Common.{◌≡◌, ◌+◌, ◌++◌, ◌∷◌, [], ◌<◌, List, ℕ, Some, length, take, slice_get, sym, ap, ◌∙◌, subst, arith}
use Rattle.std.specs.List.{AllZip}
use Rattle.std.proofs.lemmas.List.{map_more, take_all}
use Rattle.std.proofs.lemmas.Option.{slice_get-get_or, slice_get_within}
use Rattle.fst_delayed.specs.Caches.{keys}
use Rattle.fst_lattice.specs.Runs.{IsAnswerAt, job_lines}
use Rattle.fst_lattice.specs.Walks.{IsJob, LineWalk}
use Rattle.fst_lattice.proofs.Numbers.{zip_append}
use Rattle.fst_lattice.proofs.answering.answer_jobs.Goals as goal

pub line-line-requires : goal.line-line-requires
line-line-requires g c =
    let at = slice_get-get_or c.args.jobs.now c.loop-job.job-index c.job-item.result (omega arith) ∙ ap Some (sym c.job-item.is) in
    let h = (c.requires.walked.each c.loop-job.job-index c.job-item.result at).0 in
    omega (arith, slice_get_within c.args.lines.now c.job-item.result.index h.line h.there, c.index.ensures)

pub answer-requires-clause-job : goal.answer-requires-clause-job
answer-requires-clause-job g c =
    let at = slice_get-get_or c.args.jobs.now c.loop-job.job-index c.job-item.result (omega arith) ∙ ap Some (sym c.job-item.is) in
    let h = (c.requires.walked.each c.loop-job.job-index c.job-item.result at).0 in
    let line : h.line ≡ c.line-line.result.now = first h.line c.line-line.result.now (sym h.there ∙ (ap (slice_get c.args.lines.now) (sym c.index.ensures) ∙ c.line-line.ensures)) in
    subst (λ (l : List ℕ). IsJob g.W.Weight.KIND g.W.Weight.value c.args.delayed.now l (keys c.args.cache.now) c.job-item.result) line h.job
  where
    first : (a b : List ℕ) → Some a ≡ Some b → a ≡ b
    first a b e = cc

pub answer-requires-clause-limit : goal.answer-requires-clause-limit
answer-requires-clause-limit g c =
    let at = slice_get-get_or c.args.jobs.now c.loop-job.job-index c.job-item.result (omega arith) ∙ ap Some (sym c.job-item.is) in
    (c.requires.walked.each c.loop-job.job-index c.job-item.result at).1

pub answer-requires-clause-over : goal.answer-requires-clause-over
answer-requires-clause-over g c =
    let at = slice_get-get_or c.args.jobs.now c.loop-job.job-index c.job-item.result (omega arith) ∙ ap Some (sym c.job-item.is) in
    c.requires.walked.over c.loop-job.job-index c.job-item.result at

pub loop-job-preserved : goal.loop-job-preserved
loop-job-preserved g c =
    let R = IsAnswerAt (g.A.Answering.answers c.args.answering.now c.args.delayed.now) c.args.lines.now in
    let place : ℕ = c.loop-job.job-index in
    let job : LineWalk = c.job-item.result in
    let low : c.loop-job.job-index < length c.args.jobs.now = omega arith in
    let numbers : job_lines (take (place + 1) c.args.jobs.now) ≡ job_lines (take place c.args.jobs.now) ++ job.index ∷ [] =
    map_more (λ (j : LineWalk). j.index) c.args.jobs.now place job low ∙ ap (λ (j : LineWalk). job_lines (take place c.args.jobs.now) ++ j.index ∷ []) (sym c.job-item.is) in
    let answered : R job.index c.in_ok-answer.answer = record { line = c.line-line.result.now; there = ap (slice_get c.args.lines.now) (sym c.index.ensures) ∙ c.line-line.ensures; is = c.in_ok-answer.ensures } in
    subst (λ (ns : List ℕ). AllZip R ns c.push.new.self.items) (sym numbers)
    (subst (λ (xs : List g.row.A-Answer.Denot). AllZip R (job_lines (take place c.args.jobs.now) ++ job.index ∷ []) xs) (sym c.in_ok-push.ensures.items)
    (zip_append R (job_lines (take place c.args.jobs.now)) c.loop-job.answers.items (job.index ∷ []) (c.in_ok-answer.answer ∷ []) c.loop-job.invariant (answered, tt)))

pub returns : goal.returns
returns g c =
    let R = IsAnswerAt (g.A.Answering.answers c.args.answering.now c.args.delayed.now) c.args.lines.now in
    subst (λ (js : List LineWalk). AllZip R (job_lines js) c.loop-job.answers.items) (take_all c.loop-job.job-index c.args.jobs.now (omega arith)) c.loop-job.invariant
