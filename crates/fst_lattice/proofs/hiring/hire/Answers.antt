use Rattle.std.proofs.Common.{◌∷◌, [], length, ap, ◌∙◌, arith}
use Rattle.std.proofs.lemmas.List.{length-append}
use Rattle.fst_lattice.proofs.Hired.{new_more}
use Rattle.fst_lattice.proofs.hiring.hire.Goals as goal

pub loop-worker-preserved : goal.loop-worker-preserved
loop-worker-preserved g c =
    let inv = c.loop-worker.invariant in
    let grown = c.in_ok-push.ensures.items in
    let split = c.split.ensures in
    let made = c.new.ensures in
    record {
      size = omega (arith, ap length grown, length-append c.loop-worker.workers.items (c.new.result ∷ []), inv.size);
      new = new_more g.M.Meter.count g.M.Meter.is_part c.loop-worker.workers.items c.push.new.self.items c.new.result grown inv.new
          (record { jobs = made.0; own = made.1; pass = made.3; part = ap g.M.Meter.is_part made.2 ∙ split.new.2; none = ap g.M.Meter.count made.2 ∙ split.new.0 });
      count = split.count ∙ inv.count;
      parts = omega (arith, split.parts, inv.parts);
      part = split.part ∙ inv.part;
    }
