use Rattle.fst_determinize.proofs.Forms.{ways_more}
use Rattle.fst_determinize.proofs.way.put_ways.Goals as goal

pub loop-member-preserved : goal.loop-member-preserved
loop-member-preserved g c =
    ways_more g.W.Weight.KIND g.W.Weight.value g.R.Kept.value c.args.fst.now c.args.members.now _ _ _ c.loop-member.member-index c.member-item.result _ c.arcs.result.now c.loop-member-test.true c.member-item.is c.member.view_is c.arcs.ensures
    c.loop-member.invariant c.in_ok-put_arc_ways.ensures
