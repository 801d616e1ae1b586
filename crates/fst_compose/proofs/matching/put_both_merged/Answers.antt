use Rattle.fst_compose.proofs.Segments.{ok_more, order_whole}
use Rattle.fst_compose.proofs.matching.put_both_merged.Goals as goal

pub returns : goal.returns
returns g c =
    let first = c.run_end-first_alone.ensures in
    let second = c.run_end-second_alone.ensures in
    record { put = ok_more c.put_seconds.result _ _ (order_whole g.W.Weight.KIND g.W.Weight.value c.args.key c.args.arcs.now c.args.bs.now _ _ c.requires.first c.requires.second first.within second.within first.next second.here second.next _ _ _ _ c.in_ok-put_firsts.ensures c.in_ok-put_merged.ensures.put) c.put_seconds.ensures }
