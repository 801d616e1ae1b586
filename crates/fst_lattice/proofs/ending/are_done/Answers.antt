use Rattle.std.proofs.Common.{◌≡◌, ⊎_elim, ◌<◌, Some, length, slice_get, refl, sym, ap, ◌∙◌, subst, arith}
use Rattle.std.proofs.lemmas.Bool.{cases_eq}
use Rattle.std.proofs.lemmas.Option.{slice_get_read, slice_get_within}
use Rattle.fst_lattice.specs.Phases.{Laborer}
use Rattle.fst_lattice.specs.Runs.{IsDone}
use Rattle.fst_lattice.proofs.ending.are_done.Goals as goal

pub returns-then-not-is_done-clause-left : goal.returns-then-not-is_done-clause-left
returns-then-not-is_done-clause-left g c = λ no.
    let low : c.loop-worker.worker-index < length c.args.workers.now = omega arith in
    let at : slice_get c.args.workers.now c.loop-worker.worker-index ≡ Some c.worker-item.result = slice_get_read c.args.workers.now (length c.args.workers.now) c.loop-worker.worker-index c.worker-item.result refl low c.worker-item.is in
    let left = c.is_done.ensures.left c.if-not-is_done.true in
    (c.loop-worker.worker-index, c.worker-item.result, at, left.0, left.1, left.2, left.3, left.4)

pub loop-worker-preserved : goal.loop-worker-preserved
loop-worker-preserved g c = λ k w below there.
    let low : c.loop-worker.worker-index < length c.args.workers.now = omega arith in
    let at : slice_get c.args.workers.now c.loop-worker.worker-index ≡ Some c.worker-item.result = slice_get_read c.args.workers.now (length c.args.workers.now) c.loop-worker.worker-index c.worker-item.result refl low c.worker-item.is in
    ⊎_elim
    (λ (e : k ≡ c.loop-worker.worker-index).
    let same : c.worker-item.result ≡ w = first c.worker-item.result w (sym at ∙ (ap (slice_get c.args.workers.now) (sym e) ∙ there)) in
    subst (λ (v : Laborer g.row.W-Wide.Denot g.row.M.Denot). IsDone v) same (c.is_done.ensures.done c.if-not-is_done.false))
    (λ (n : k ≡ c.loop-worker.worker-index → ⊥). c.loop-worker.invariant k w (omega (arith, below, n)) there)
    (cases_eq k c.loop-worker.worker-index)
  where
    first : (a b : Laborer g.row.W-Wide.Denot g.row.M.Denot) → Some a ≡ Some b → a ≡ b
    first a b e = cc

pub returns-clause-done : goal.returns-clause-done
returns-clause-done g c = λ yes k w at. c.loop-worker.invariant k w (let low = slice_get_within c.args.workers.now k w at in omega (arith, low)) at
