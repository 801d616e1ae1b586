use Rattle.std.proofs.Common.{◌≡◌, ◌*◌, ◌<◌, ℕ, ap, arith, get_or, length, sym, ◌∙◌}
use Rattle.fst_machine.specs.Machine.{Arc}
use Rattle.fst_compose.proofs.Counting.{no_steps, then_steps}
use Rattle.fst_compose.proofs.Segments.{goes_on, matches_more, none_matched, run_high, run_low, runs_more}
use Rattle.fst_compose.proofs.matching.put_runs.Goals as goal

pub loop-place-init : goal.loop-place-init
loop-place-init g c = record {
  first = omega arith;
  second = omega arith;
  low = λ i j d e before past low. absurd (omega arith);
  high = λ i j d e past low before. absurd (omega arith);
  put = none_matched g.W.Weight.KIND g.W.Weight.value c.args.arcs.now _;
  cost = no_steps (2 * 0) (length c.args.arcs.now) c.args.steps.now;
}

pub returns-in_err-put_products-clause-cost : goal.returns-in_err-put_products-clause-cost
returns-in_err-put_products-clause-cost g c = then_steps (2 * c.loop-place.place) 2 (2 * length c.args.bs.now) (length c.args.arcs.now) c.args.steps.now c.loop-place.steps _ c.loop-place.invariant.cost c.run_from-first.ensures.cost (omega arith)

pub loop-place-preserved : goal.loop-place-preserved
loop-place-preserved g c =
    let b = c.index-bs-place.result in
    let read : b.ilabel ≡ c.next.inside.ilabel = sym (ap (λ (d : Arc g.row.W.Denot ℕ). d.ilabel) c.next.view_is) in
    let at : (get_or c.args.bs.now c.loop-place.place b).ilabel ≡ c.next.inside.ilabel = sym (ap (λ (d : Arc g.row.W.Denot ℕ). d.ilabel) c.index-bs-place.is) ∙ read in
    let ends = c.run_end-end.ensures in
    let run = c.run_from-first.ensures.run in
    let more : c.loop-place.place < c.run_end-end.result = goes_on c.args.arcs.now c.args.bs.now c.requires.second _ _ _ _ _ run b at c.loop-place-test.true ends.order ends.within ends.here ends.next in
    record {
      first = run.within;
      second = ends.within;
      low = run_low c.args.arcs.now c.args.bs.now c.requires.second _ _ _ _ _ run b at c.loop-place-test.true ends.order ends.within ends.here ends.next;
      high = run_high c.args.arcs.now c.args.bs.now c.requires.second _ _ _ _ _ run b at c.loop-place-test.true ends.order ends.within ends.here ends.next;
      put = runs_more g.W.Weight.KIND g.W.Weight.value c.args.arcs.now c.args.bs.now c.loop-place.place c.run_end-end.result _ _ _ _ _
          (matches_more g.W.Weight.KIND g.W.Weight.value c.args.arcs.now c.args.bs.now c.loop-place.taken c.loop-place.place c.run_end-end.result _ _ _ run c.run_from-first.ensures.after ends.order ends.within c.loop-place.invariant.high ends.here)
          c.loop-place.invariant.put c.in_ok-put_products.ensures;
      cost = then_steps (2 * c.loop-place.place) 2 (2 * c.run_end-end.result) (length c.args.arcs.now) c.args.steps.now c.loop-place.steps _ c.loop-place.invariant.cost c.run_from-first.ensures.cost (omega arith);
    }
