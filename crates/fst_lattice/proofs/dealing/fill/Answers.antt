use Rattle.std.proofs.Common.{◌≡◌, ◌+◌, ◌-◌, ◌++◌, ◌∷◌, [], ◌≤◌, ℕ, Some, slice_get, ap, ap₂, sym, ◌∙◌, arith}
use Rattle.std.proofs.lemmas.List.{map-append}
use Rattle.fst_lattice.specs.Runs.{job_lines, run}
use Rattle.fst_lattice.specs.Serving.{IsJobOf}
use Rattle.fst_lattice.specs.Walks.{LineWalk}
use Rattle.fst_lattice.proofs.Numbers.{run_last}
use Rattle.fst_lattice.proofs.Hired.{each_more}
use Rattle.fst_lattice.proofs.dealing.fill.Goals as goal

pub loop-index-init : goal.loop-index-init
loop-index-init g c = record {
  dealt = record { own = c.clear.ensures.rest.0; pass = c.clear.ensures.rest.2; meter = c.clear.ensures.rest.1; jobs = λ k j at. absurd (let none : slice_get [] k ≡ Some j = ap (λ js. slice_get js k) (sym c.clear.ensures.jobs) ∙ at in cc) };
  lines = let none : c.args.from - c.args.from ≡ 0 = omega arith in ap job_lines c.clear.ensures.jobs ∙ sym (ap (run c.args.from) none);
}

pub loop-index-preserved : goal.loop-index-preserved
loop-index-preserved g c =
    let inv = c.loop-index.invariant in
    let job = c.in_ok-job.job in
    let made = c.in_ok-job.ensures in
    let grown = c.in_ok-add.ensures.jobs in
    let rest = c.add.ensures.rest in
    let low : c.args.from ≤ c.loop-index.index = omega arith in
    record {
      dealt = record {
        own = rest.0 ∙ inv.dealt.own;
        pass = rest.2 ∙ inv.dealt.pass;
        meter = rest.1 ∙ inv.dealt.meter;
        jobs = each_more (λ (j : LineWalk). IsJobOf g.W.Weight.KIND g.W.Weight.value g.W.Weight.wide_value c.args.delayed.now c.args.lines.now [] j × (j.limit ≡ c.args.limit)) c.loop-index.worker.jobs c.add.new.self.jobs job grown inv.dealt.jobs
            (record { line = c.line.result.now; there = ap (slice_get c.args.lines.now) made.new.0 ∙ c.line.ensures; job = made.job }, made.new.1);
      };
      lines =
          let next : (c.loop-index.index + 1) - c.args.from ≡ (c.loop-index.index - c.args.from) + 1 = omega (arith, low) in
          let here : c.args.from + (c.loop-index.index - c.args.from) ≡ c.loop-index.index = omega (arith, low) in
          ap job_lines grown ∙ (map-append (λ (j : LineWalk). j.index) c.loop-index.worker.jobs (job ∷ []) ∙ (ap₂ (λ xs (i : ℕ). xs ++ i ∷ []) inv.lines (made.new.0 ∙ sym here) ∙ sym (ap (run c.args.from) next ∙ run_last c.args.from (c.loop-index.index - c.args.from))));
    }
