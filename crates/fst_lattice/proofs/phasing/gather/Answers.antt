use Rattle.std.proofs.Common.{◌<◌, ℕ, length, get_or, sym, ◌∙◌, arith}
use Rattle.std.proofs.lemmas.Option.{slice_get-get_or, slice_get_within}
use Rattle.fst_lattice.proofs.Gathering.{gathering_ends, gathering_goes, known}
use Rattle.fst_lattice.proofs.phasing.gather.Goals as goal

pub take_in-requires-clause-seat : goal.take_in-requires-clause-seat
take_in-requires-clause-seat g c κs within =
    let i : ℕ = c.loop-worker.worker-index in
    let low : c.loop-worker.worker-index < length c.loop-worker.workers = omega arith in
    let at = sym (c.loop-worker.invariant.turn.rest i (omega arith)) ∙ slice_get-get_or c.loop-worker.workers i c.worker-item.result low in
    let due = c.requires.due i (get_or c.loop-worker.workers i c.worker-item.result) at (sym c.has_served.ensures ∙ c.if-not-has_served.false) in
    (due.seat, due.pass, due.of, due.won_own)

pub take_in-requires-clause-known : goal.take_in-requires-clause-known
take_in-requires-clause-known g c κs within =
    let i : ℕ = c.loop-worker.worker-index in
    let low : c.loop-worker.worker-index < length c.loop-worker.workers = omega arith in
    let at = sym (c.loop-worker.invariant.turn.rest i (omega arith)) ∙ slice_get-get_or c.loop-worker.workers i c.worker-item.result low in
    let here = sym c.has_served.ensures ∙ c.if-not-has_served.false in
    let due = c.requires.due i (get_or c.loop-worker.workers i c.worker-item.result) at here in
    known c.args.claims.now c.args.pass.now c.args.cache.now c.args.workers.now c.loop-worker.pass c.loop-worker.pass c.loop-worker.cache c.loop-worker.cache c.loop-worker.workers i c.worker-item.result c.worker-item.result c.loop-worker.invariant low here due

pub loop-worker-preserved : goal.loop-worker-preserved
loop-worker-preserved g c =
    let i : ℕ = c.loop-worker.worker-index in
    let low : c.loop-worker.worker-index < length c.loop-worker.workers = omega arith in
    let at = sym (c.loop-worker.invariant.turn.rest i (omega arith)) ∙ slice_get-get_or c.loop-worker.workers i c.worker-item.result low in
    let here = sym c.has_served.ensures ∙ c.if-not-has_served.false in
    let due = c.requires.due i (get_or c.loop-worker.workers i c.worker-item.result) at here in
    gathering_goes c.args.claims.now c.args.pass.now c.args.cache.now c.args.workers.now c.loop-worker.pass c.take_in.new.pass c.loop-worker.cache c.take_in.new.cache c.loop-worker.workers i c.worker-item.result c.take_in.new.worker
    c.loop-worker.invariant low here due c.in_ok-take_in.ensures.taken

pub returns-clause-served : goal.returns-clause-served
returns-clause-served g c = λ k v at. c.loop-worker.invariant.served k v (let low = slice_get_within c.args.workers.now k v at in omega (arith, low, c.loop-worker.invariant.turn.size)) at

pub returns-clause-gathered : goal.returns-clause-gathered
returns-clause-gathered g c = gathering_ends c.args.claims.now c.args.pass.now c.args.cache.now c.args.workers.now c.loop-worker.pass c.loop-worker.cache c.loop-worker.workers c.loop-worker.worker-index c.loop-worker.invariant (omega arith)
