use Rattle.std.proofs.Common.{◌*◌, suc, sym, ◌∙◌, arith}
use Rattle.fst_semiring.specs.Semiring.{times}
use Rattle.fst_semiring.proofs.Ranges.{Within-more}
use Rattle.fst_machine.specs.Machine.{valued_arc}
use Rattle.fst_search.proofs.Finishing.{final_read}
use Rattle.fst_nbest.specs.Counts.{count_of}
use Rattle.fst_nbest.specs.Ready.{dist_in, most_distance}
use Rattle.fst_nbest.proofs.Counted.{item_at}
use Rattle.fst_nbest.proofs.Sweeps.{ahead_all, ahead_begins, ahead_further, arc_at, picked, second_is}
use Rattle.fst_nbest.proofs.sweeping.ahead.Goals as goal

pub loop-arc-init : goal.loop-arc-init
loop-arc-init g c steps s =
    let value = g.M.AsMachine.value in
    let wide = g.W.Weight.wide_value in
    let m = g.M.AsMachine.machine c.args.fst.now in
    ahead_begins g.W.Weight.KIND value wide m steps c.args.dist.now.items c.args.count.now.items s c.args.state (wide c.widened-total.result)
    (final_read value m.states c.args.state c.final_at.result c.final_at.ensures ∙ sym c.widened-total.ensures.same)
    (Within-more g.M.Widens.bound 1180591620717411303424 (wide c.widened-total.result) g.met.M.Widens.few c.widened-total.ensures.range)
    c.wide_compare-kind.ensures.kinds.0

pub by_arc-further-requires-clause-range : goal.by_arc-further-requires-clause-range
by_arc-further-requires-clause-range g c =
    let r = c.requires.swept in
    let few = r.1 in
    Within-more (r.0 * 1180591620717411303424) most_distance (dist_in g.W.Weight.wide_value c.args.dist.now.items c.arc-item.result.next) (omega (arith, few)) (r.2.numbers c.arc-item.result.next)

pub loop-arc-preserved : goal.loop-arc-preserved
loop-arc-preserved g c steps s =
    let kind = g.W.Weight.KIND in
    let value = g.M.AsMachine.value in
    let wide = g.W.Weight.wide_value in
    let m = g.M.AsMachine.machine c.args.fst.now in
    let x = c.arc-item.result in
    let here = item_at c.arcs_at-arc-items.result.now c.loop-arc.arc-index x c.loop-arc-test.true c.arc-item.is in
    let before = c.loop-arc.invariant steps s in
    let by = c.by_arc-further.ensures in
    let u = times kind (value x.weight) (dist_in wide c.args.dist.now.items x.next) in
    let n = suc (count_of c.args.count.now.items x.next) in
    ahead_further kind value wide m steps c.args.dist.now.items c.args.count.now.items s c.requires.cancels c.requires.firm c.loop-arc.arc-index c.args.state (wide c.loop-arc.best.total) (wide c.nearer-best.result.total) c.loop-arc.best.arcs c.nearer-best.result.arcs
    (valued_arc value x) before (arc_at value m c.args.state c.arcs_at-arc-items.result.now c.arcs_at-arc-items.ensures c.loop-arc.arc-index x here) by.done by.weight c.nearer-best.ensures.kind
    (picked wide c.loop-arc.best c.by_arc-further.result c.nearer-best.result u n by.total by.arcs c.nearer-best.ensures.picks) c.nearer-best.ensures.first
    (second_is wide c.by_arc-further.result c.nearer-best.result u n by.total by.arcs c.nearer-best.ensures.second)

pub returns : goal.returns
returns g c steps s =
    let value = g.M.AsMachine.value in
    let m = g.M.AsMachine.machine c.args.fst.now in
    ahead_all g.W.Weight.KIND value g.W.Weight.wide_value m steps c.args.dist.now.items c.args.count.now.items s c.args.state c.loop-arc.arc-index _ _ c.arcs_at-arc-items.result.now c.arcs_at-arc-items.ensures (c.loop-arc.invariant steps s) (omega (arith, c.loop-arc-test.false))
