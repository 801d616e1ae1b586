use Rattle.std.proofs.Common.{map, sym, ◌∙◌}
use Rattle.fst_nbest.specs.Ready.{dist_in}
use Rattle.fst_trim.proofs.Looking.{look_final}
use Rattle.fst_nbest.proofs.TotalHeaps.{state_totals}
use Rattle.fst_nbest.proofs.totals.put_state_totals.Goals as goal

pub returns-clause-here : goal.returns-clause-here
returns-clause-here g c =
    let wide = g.W.Weight.wide_value in
    let value = g.M.AsMachine.value in
    let m = g.M.AsMachine.machine c.args.fst.now in
    state_totals value m (dist_in wide c.args.dist.now.items) (wide c.args.least) (wide c.widened.result) c.args.state c.arcs_at.result.now (map wide c.put_final_total.new.totals.items) (map wide c.put_arc_totals.new.totals.items)
    c.arcs_at.ensures (c.widened.ensures.same ∙ sym (look_final value m c.args.state c.final_at.result c.final_at.ensures)) c.in_ok-put_final_total.ensures.here c.in_ok-put_arc_totals.ensures.keeps c.in_ok-put_arc_totals.ensures.here
