use Rattle.fst_delayed.proofs.Running.{run_is}
use Rattle.fst_delayed.proofs.run.run_of.Goals as goal

pub returns : goal.returns
returns g c =
    let first = c.first_place-first.ensures in
    let end = c.end_place-end.ensures in
    run_is c.args.arcs.now c.requires c.args.label c.first_place-first.result c.end_place-end.result end.order end.within first.before first.from end.here end.next
