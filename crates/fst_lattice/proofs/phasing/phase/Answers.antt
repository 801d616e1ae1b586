use Rattle.std.proofs.Common.{◌≡◌, ◌<◌, length, arith}
use Rattle.fst_claims.specs.Passes.{parts}
use Rattle.fst_claims.specs.Rule.{all_parts}
use Rattle.fst_lattice.proofs.Rounds.{is_due, is_phase, is_ready}
use Rattle.fst_lattice.proofs.phasing.phase.Goals as goal

pub run_all-requires-clause-ready : goal.run_all-requires-clause-ready
run_all-requires-clause-ready g c κs within = λ k w at.
    let h = c.hand_out.ensures.handed.each k w at in
    is_ready g.W.Weight.KIND g.W.Weight.value g.W.Weight.wide_value g.M.Meter.count g.M.Meter.parts_out g.M.Meter.is_part c.args.delayed.now c.args.lines.now c.args.cache.now c.in_ok-claims.claims h.0 w (c.requires.idle k h.0 h.1) h.2

pub gather-requires-clause-due : goal.gather-requires-clause-due
gather-requires-clause-due g c κs within = λ k v at served.
    let r = c.run_all.ensures.run.each k v at in
    is_due g.W.Weight.KIND g.W.Weight.value g.W.Weight.wide_value g.M.Meter.count g.M.Meter.parts_out g.M.Meter.is_part c.args.delayed.now c.args.lines.now c.args.cache.now c.in_ok-claims.claims r.0 v r.2 served

pub returns-clause-phase : goal.returns-clause-phase
returns-clause-phase g c =
    let handed = c.hand_out.ensures.handed in
    let run = c.run_all.ensures.run in
    let gathered = c.in_ok-gather.ensures.gathered in
    let long : length c.run_all.new.workers ≡ length c.args.workers.now = omega (arith, run.size, handed.size) in
    let whole : parts c.gather.new.pass ≡ all_parts = omega (arith, gathered.sum, c.hand_out.ensures.pass.3, c.in_ok-claims.ensures.whole.2, long) in
    let some : 0 < length c.run_all.new.workers = omega (arith, long, c.requires.some) in
    is_phase g.W.Weight.KIND g.W.Weight.value g.W.Weight.wide_value g.M.Meter.count g.M.Meter.parts_out g.M.Meter.is_part c.args.delayed.now c.args.lines.now c.args.cache.now c.in_ok-claims.claims c.hand_out.new.pass c.gather.new.pass c.gather.new.cache
    c.args.workers.now c.hand_out.new.workers c.run_all.new.workers c.gather.new.workers handed run c.in_ok-gather.ensures.served gathered whole some c.requires.entries
