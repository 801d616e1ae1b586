use Rattle.fst_delayed.specs.Handed.{same_decides, same_name}
use Rattle.fst_delayed.proofs.Fronts.{put_next}
use Rattle.fst_delayed.proofs.names.put_names.Goals as goal

pub loop-place-preserved : goal.loop-place-preserved
loop-place-preserved c =
    let next = put_next same_name same_decides c.args.names.now c.args.more.now c.loop-place.names c.put.new.self c.args.count c.loop-place.place c.item.result.now c.requires.once c.requires.far c.loop-place-test.true c.item.ensures c.loop-place.invariant.names c.loop-place.invariant.apart c.in_ok-put.ensures.keys in
    record { names = next.0; apart = next.1 }
