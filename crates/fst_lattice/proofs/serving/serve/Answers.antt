use Rattle.std.proofs.Common.{◌≡◌, ◌+◌, ◌++◌, ◌∷◌, [], ℕ, true≢false, inr, length, length-append, refl, sym, ap, ◌∙◌, subst, arith}
use Rattle.fst_machine.specs.BreadthFirst.{Has}
use Rattle.fst_claims.specs.Passes.{found}
use Rattle.fst_delayed.specs.Caches.{Entries, keys}
use Rattle.fst_delayed.specs.Coding.{code_of}
use Rattle.fst_delayed.specs.Graphs.{IsKeyOf, delayed_graph}
use Rattle.fst_delayed.specs.Handed.{Name}
use Rattle.fst_lattice.specs.Needed.{IsNeeded}
use Rattle.fst_lattice.specs.Serving.{IsBlocked}
use Rattle.fst_lattice.specs.Walks.{IsJob}
use Rattle.fst_lattice.proofs.Own.{comes_nearer, grown_later, grown_more, grown_none, head_key, head_low, head_moves, head_needed, job_known, keys_more}
use Rattle.fst_lattice.proofs.serving.serve.Goals as goal

pub loop-key-init : goal.loop-key-init
loop-key-init g c = record {
  pass = (c.requires.pass, refl);
  own = c.requires.own;
  job = c.requires.job;
  same = (refl, refl);
  grown = grown_none c.args.claims.now.places c.args.line.now (delayed_graph g.W.Weight.KIND g.W.Weight.value c.args.delayed.now) c.args.job.now.limit c.args.own.now (found c.args.pass.now);
  count = refl;
  few = c.requires.few;
  meter = (refl, refl);
  known = λ e. absurd (true≢false (sym e));
}

pub win-requires-clause-key : goal.win-requires-clause-key
win-requires-clause-key g c κs within =
    let state = rw c.in-Needs.is at c.in_ok-advance.ensures.state in
    let known = keys c.args.cache.now ++ keys c.loop-key.own in
    subst (IsKeyOf c.args.delayed.now) state.2 (head_key g.W.Weight.KIND g.W.Weight.value c.args.delayed.now c.args.line.now known c.advance.new.self state.0 c.in_ok-advance.ensures.job state.1)

pub returns-then-not-put-clause-settled : goal.returns-then-not-put-clause-settled
returns-then-not-put-clause-settled g c =
    let state = rw c.in-Needs.is at c.in_ok-advance.ensures.state in
    let lost = rw c.if-not-put.true at c.in_ok-put-in-Needs.ensures.won in
    let same : c.win.new.own ≡ c.loop-key.own = lost.0 in
    inr (record {
      at = state.0;
      head = state.1;
      not_known = λ h. state.3 (subst (Has (keys c.args.cache.now ++ keys c.loop-key.own)) state.2 (subst (λ (es : Entries g.row.W-Wide.Denot (Name ℕ ℕ)). Has (keys c.args.cache.now ++ keys es) state.0.name) same h));
      blocked = subst (λ (n : Name ℕ ℕ). IsBlocked c.args.claims.now.places (found c.win.new.pass) (code_of n)) (sym state.2) lost.1;
    })

pub returns-then-not-put-clause-job : goal.returns-then-not-put-clause-job
returns-then-not-put-clause-job g c =
    let lost = rw c.if-not-put.true at c.in_ok-put-in-Needs.ensures.won in
    let same : c.win.new.own ≡ c.loop-key.own = lost.0 in
    subst (λ (es : Entries g.row.W-Wide.Denot (Name ℕ ℕ)). IsJob g.W.Weight.KIND g.W.Weight.value c.args.delayed.now c.args.line.now (keys c.args.cache.now ++ keys es) c.advance.new.self) (sym same) c.in_ok-advance.ensures.job

pub returns-then-not-put-clause-grown : goal.returns-then-not-put-clause-grown
returns-then-not-put-clause-grown g c =
    let lost = rw c.if-not-put.true at c.in_ok-put-in-Needs.ensures.won in
    let seen = c.in_ok-put-in-Needs.ensures.found in
    grown_later c.args.claims.now.places c.args.line.now (delayed_graph g.W.Weight.KIND g.W.Weight.value c.args.delayed.now) c.args.job.now.limit c.args.own.now c.loop-key.own (found c.args.pass.now) (found c.loop-key.pass) (found c.win.new.pass) seen.0
    c.loop-key.invariant.grown seen.1 c.win.new.own lost.0

pub loop-key-smaller : goal.loop-key-smaller
loop-key-smaller g c =
    let inv = c.loop-key.invariant in
    let advance = c.in_ok-advance.ensures in
    let state = rw c.in-Needs.is at advance.state in
    let known = keys c.args.cache.now ++ keys c.loop-key.own in
    let low = head_low g.W.Weight.KIND g.W.Weight.value c.args.delayed.now c.args.line.now known c.advance.new.self state.0 advance.job state.1 in
    let absent : Has (keys c.args.cache.now ++ keys c.loop-key.own) state.0.name → ⊥ = λ h. state.3 (subst (Has (keys c.args.cache.now ++ keys c.loop-key.own)) state.2 h) in
    comes_nearer c.loop-key.job.limit c.advance.new.self.limit c.loop-key.job.taken c.advance.new.self.taken c.loop-key.put c.in_ok-put-in-Needs.put advance.same.1 advance.taken
    (λ e. let k = inv.known e in head_moves known c.loop-key.job c.advance.new.self k.0 state.0 advance.front.0 k.1 k.2 advance.taken advance.front.1 state.1 absent) low c.if-not-put.false

pub loop-key-preserved : goal.loop-key-preserved
loop-key-preserved g c =
    let kind = g.W.Weight.KIND in
    let value = g.W.Weight.value in
    let d = c.args.delayed.now in
    let line = c.args.line.now in
    let graph = delayed_graph kind value d in
    let inv = c.loop-key.invariant in
    let advance = c.in_ok-advance.ensures in
    let state = rw c.in-Needs.is at advance.state in
    let known = keys c.args.cache.now ++ keys c.loop-key.own in
    let won' = rw c.if-not-put.false at c.in_ok-put-in-Needs.ensures.won in
    let seen = c.in_ok-put-in-Needs.ensures.found in
    let more = keys_more c.args.cache.now c.loop-key.own c.win.new.own c.in-Needs.key won'.0 won'.1 in
    let need = head_needed kind value d line known c.advance.new.self state.0 advance.job state.1 in
    let limit : c.advance.new.self.limit ≡ c.args.job.now.limit = advance.same.1 ∙ inv.same.1 in
    let needed : IsNeeded line graph c.args.job.now.limit c.in-Needs.key = subst (IsNeeded line graph c.args.job.now.limit) state.2 (subst (λ (l : ℕ). IsNeeded line graph l state.0.name) limit need) in
    let long : length c.win.new.own ≡ length c.loop-key.own + 1 = ap length won'.1 ∙ length-append c.loop-key.own ((c.in-Needs.key, won'.0) ∷ []) in
    record {
      pass = (c.in_ok-put-in-Needs.ensures.pass.0, c.in_ok-put-in-Needs.ensures.pass.1 ∙ inv.pass.1);
      own = c.in_ok-put-in-Needs.ensures.own;
      job = job_known kind value d line known (keys c.args.cache.now ++ keys c.win.new.own) c.advance.new.self advance.job more.0;
      same = (advance.same.0 ∙ inv.same.0, advance.same.1 ∙ inv.same.1);
      grown = grown_more c.args.claims.now.places line graph c.args.job.now.limit c.args.own.now c.loop-key.own (found c.args.pass.now) (found c.loop-key.pass) (found c.win.new.pass) seen.0 inv.grown seen.1 c.win.new.own c.in-Needs.key won'.0 won'.1 needed won'.2;
      count = omega (arith, inv.count, c.in_ok-put-in-Needs.ensures.count);
      few = omega (arith, inv.few, c.in_ok-put-in-Needs.ensures.count, long);
      meter = (c.in_ok-put-in-Needs.ensures.meter.0 ∙ inv.meter.0, c.in_ok-put-in-Needs.ensures.meter.1 ∙ inv.meter.1);
      known = λ e. (state.0, state.1, subst (Has (keys c.args.cache.now ++ keys c.win.new.own)) (sym state.2) more.1);
    }
