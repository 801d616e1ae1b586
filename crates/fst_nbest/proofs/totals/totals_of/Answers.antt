use Rattle.std.proofs.Common.{map}
use Rattle.fst_nbest.specs.Ready.{dist_in}
use Rattle.fst_nbest.proofs.TotalHeaps.{totals_more}
use Rattle.fst_nbest.proofs.totals.totals_of.Goals as goal

pub loop-state-preserved : goal.loop-state-preserved
loop-state-preserved g c =
    let wide = g.W.Weight.wide_value in
    let e = c.in_ok-put_state_totals.ensures in
    record {
      heap = e.heap;
      solids = e.solids;
      all = totals_more g.M.AsMachine.value (g.M.AsMachine.machine c.args.fst.now) (dist_in wide c.args.dist.now.items) (wide c.index-least.result.now) (map wide c.loop-state.totals.items) (map wide c.put_state_totals.new.totals.items) c.loop-state.state e.keeps e.here c.loop-state.invariant.all;
    }
