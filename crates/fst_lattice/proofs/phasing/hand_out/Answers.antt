use Rattle.std.proofs.Common.{◌<◌, length, ◌∙◌, arith}
use Rattle.fst_lattice.specs.Phases.{IsHanded}
use Rattle.fst_lattice.proofs.Turns.{turn_ends, turn_goes}
use Rattle.fst_lattice.proofs.phasing.hand_out.Goals as goal

pub loop-worker-preserved : goal.loop-worker-preserved
loop-worker-preserved g c =
    let inv = c.loop-worker.invariant in
    let split = c.split.ensures in
    let low : c.loop-worker.worker-index < length c.loop-worker.workers = omega arith in
    let below : c.loop-worker.worker-index < length c.args.workers.now = omega (arith, low, inv.turn.size) in
    record {
      pass = (split.pass.0, split.left.0 ∙ inv.pass.1, split.left.1 ∙ inv.pass.2, omega (arith, split.left.2, inv.pass.3, below, c.requires.parts));
      turn = turn_goes (IsHanded c.args.claims.now) c.args.workers.now c.loop-worker.workers c.loop-worker.worker-index c.worker-item.result c.hand.new.self inv.turn low
          (record { seat = c.split.result; is = c.hand.ensures; of = split.pass.1; one = split.new.2; none_won = split.new.0; none_found = split.new.1 });
    }

pub returns-clause-handed : goal.returns-clause-handed
returns-clause-handed g c = turn_ends (IsHanded c.args.claims.now) c.args.workers.now c.loop-worker.workers c.loop-worker.worker-index c.loop-worker.invariant.turn (omega arith)
