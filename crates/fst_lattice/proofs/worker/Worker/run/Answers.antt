use Rattle.std.proofs.Common.{◌≡◌, Some, drop, length, ap, arith, refl}
use Rattle.std.specs.Vec.{with_items}
use Rattle.fst_lattice.proofs.Running.{has_run, whole_left}
use Rattle.fst_lattice.proofs.worker.Worker.run.Goals as goal

pub returns : goal.returns
returns g c =
    let s = c.self.inside in
    let done = c.work-done.ensures in
    let long : length c.work-done.new.jobs ≡ c.self.inside.jobs.len = omega (arith, c.work-done.auto.jobs, ap length c.as_mut_slice-jobs.ensures.value, c.self.inside.jobs.ok.0) in
    has_run g.W.Weight.KIND g.W.Weight.value g.W.Weight.wide_value g.M.Meter.count g.M.Meter.parts_out g.M.Meter.is_part c.args.delayed.now c.args.lines.now c.args.cache.now c.args.claims.now c.work-done.result c.args.self.now
    (record { jobs = (with_items s.jobs c.work-done.new.jobs).items; own = c.work-done.new.own; meter = c.work-done.new.meter; pass = Some c.work-done.new.pass; served = c.is_ok-self-inside.result })
    (record { jobs = s.jobs.items; own = s.own; meter = s.meter; pass = s.pass; served = s.served }) c.work-done.new.pass c.in-Some.pass c.as_mut_slice-jobs.result.now c.work-done.new.jobs
    (whole_left c.self.inside.jobs.len c.work-done.new.jobs (drop (length c.work-done.new.jobs) c.self.inside.jobs.items) long) c.self.view_is c.requires.ready c.in-Some.ensures.value
    c.as_mut_slice-jobs.ensures.value refl done.pass.0 done.pass.1 c.is_ok-self-inside.ensures.value done.own done.served done.count done.meter
