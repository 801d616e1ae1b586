use Rattle.std.proofs.Common.{◌≡◌, ◌<◌, ◌++◌, ℕ, List, Some, length, get_or, slice_get, sym, ap, ◌∙◌, subst, arith}
use Rattle.std.proofs.lemmas.Option.{slice_get-get_or, slice_get_within}
use Rattle.fst_machine.proofs.Elements.{Has-append_left}
use Rattle.fst_claims.specs.Passes.{found}
use Rattle.fst_delayed.specs.Caches.{keys}
use Rattle.fst_lattice.specs.Walks.{IsJob, LineWalk}
use Rattle.fst_lattice.proofs.Own.{job_known}
use Rattle.fst_lattice.proofs.Served.{serving_goes}
use Rattle.fst_lattice.proofs.serving.work.Goals as goal

pub line-line-requires : goal.line-line-requires
line-line-requires g c =
    let low : c.loop-job.job-index < length c.loop-job.jobs = omega arith in
    let x : LineWalk = get_or c.loop-job.jobs c.loop-job.job-index c.job-item.result in
    let at : slice_get c.loop-job.jobs c.loop-job.job-index ≡ Some x = slice_get-get_or c.loop-job.jobs c.loop-job.job-index c.job-item.result low in
    let h = c.requires.jobs c.loop-job.job-index x (sym (c.loop-job.invariant.serving.rest c.loop-job.job-index (omega arith)) ∙ at) in
    omega (arith, slice_get_within c.args.lines.now x.index h.line h.there, c.index.ensures)

pub serve-requires-clause-job : goal.serve-requires-clause-job
serve-requires-clause-job g c κs within =
    let low : c.loop-job.job-index < length c.loop-job.jobs = omega arith in
    let x : LineWalk = get_or c.loop-job.jobs c.loop-job.job-index c.job-item.result in
    let at : slice_get c.loop-job.jobs c.loop-job.job-index ≡ Some x = slice_get-get_or c.loop-job.jobs c.loop-job.job-index c.job-item.result low in
    let h = c.requires.jobs c.loop-job.job-index x (sym (c.loop-job.invariant.serving.rest c.loop-job.job-index (omega arith)) ∙ at) in
    let line : h.line ≡ c.line-line.result.now = first h.line c.line-line.result.now (sym h.there ∙ (ap (slice_get c.args.lines.now) (sym c.index.ensures) ∙ c.line-line.ensures)) in
    let job = job_known g.W.Weight.KIND g.W.Weight.value c.args.delayed.now h.line (keys c.args.cache.now) (keys c.args.cache.now ++ keys c.loop-job.own) x h.job (λ n k. Has-append_left (keys c.args.cache.now) (keys c.loop-job.own) n k) in
    subst (λ (l : List ℕ). IsJob g.W.Weight.KIND g.W.Weight.value c.args.delayed.now l (keys c.args.cache.now ++ keys c.loop-job.own) (get_or c.loop-job.jobs c.loop-job.job-index c.job-item.result)) line job
  where
    first : (a b : List ℕ) → Some a ≡ Some b → a ≡ b
    first a b e = cc

pub loop-job-preserved : goal.loop-job-preserved
loop-job-preserved g c =
    let inv = c.loop-job.invariant in
    let low : c.loop-job.job-index < length c.loop-job.jobs = omega arith in
    let x : LineWalk = get_or c.loop-job.jobs c.loop-job.job-index c.job-item.result in
    let at : slice_get c.loop-job.jobs c.loop-job.job-index ≡ Some x = slice_get-get_or c.loop-job.jobs c.loop-job.job-index c.job-item.result low in
    let did = c.in_ok-serve.ensures in
    record {
      pass = (did.pass.0, did.pass.1 ∙ inv.pass.1);
      own = did.own;
      serving = serving_goes g.W.Weight.KIND g.W.Weight.value g.W.Weight.wide_value c.args.delayed.now c.args.lines.now c.args.claims.now.places c.args.cache.now c.args.jobs.now c.loop-job.own c.serve.new.own (found c.loop-job.pass) (found c.serve.new.pass)
          c.loop-job.jobs c.loop-job.job-index x c.serve.new.job c.line-line.result.now inv.serving low at (ap (slice_get c.args.lines.now) (sym c.index.ensures) ∙ c.line-line.ensures) did.grown did.same did.job did.settled;
      count = omega (arith, inv.count, did.count);
      meter = (did.meter.0 ∙ inv.meter.0, did.meter.1 ∙ inv.meter.1);
    }

pub returns-clause-served : goal.returns-clause-served
returns-clause-served g c =
    let h = c.loop-job.invariant.serving in
    record {
      size = h.size;
      each = λ k w at. h.done k w (let low = slice_get_within c.loop-job.jobs k w at in omega (arith, low)) at;
      needed = h.needed;
    }
