use Rattle.fst_machine.specs.Machine.{valued_arc}
use Rattle.fst_distance.specs.Totals.{scaled_arc}
use Rattle.fst_distance.proofs.Lists.{map_read}
use Rattle.fst_distance.proofs.totalling.put_scaled.Goals as goal

pub loop-arc-preserved : goal.loop-arc-preserved
loop-arc-preserved g c =
    let w = g.W.Weight in
    let inside = c.arc.inside in
    map_read (valued_arc w.wide_value) (λ a. scaled_arc w.KIND (w.wide_value c.args.factor) (valued_arc w.wide_value a)) c.loop-arc.out.items c.push.new.self.items _ c.args.arcs.now c.loop-arc.arc-index _ c.arc-item.result c.loop-arc-test.true c.arc.view_is c.arc-item.is
    c.in_ok-push.ensures.items (λ j. record { ilabel = inside.ilabel; olabel = inside.olabel; weight = c.wide_times.ensures.product j; next = inside.next }) c.loop-arc.invariant
