use Rattle.std.proofs.Common.{◌*◌, arith, length}
use Rattle.std.specs.List.{slice_range}
use Rattle.fst_compose.proofs.Counting.{more_steps}
use Rattle.fst_compose.proofs.Segments.{ok_more, order_whole, rest_short}
use Rattle.fst_compose.proofs.matching.put_by_both.Goals as goal

pub returns-in_err-put_runs-clause-cost : goal.returns-in_err-put_runs-clause-cost
returns-in_err-put_runs-clause-cost g c =
    more_steps (2 * length (slice_range c.args.bs.now c.run_end-epsilons.result (length c.args.bs.now))) (length (slice_range c.args.arcs.now c.run_end-alone.result (length c.args.arcs.now))) (2 * length c.args.bs.now) (length c.args.arcs.now) c.args.steps.now c.put_runs.new.steps
    (omega (arith, rest_short c.args.bs.now c.run_end-epsilons.result)) (rest_short c.args.arcs.now c.run_end-alone.result) c.put_runs.ensures.cost

pub returns-clause-cost : goal.returns-clause-cost
returns-clause-cost g c =
    more_steps (2 * length (slice_range c.args.bs.now c.run_end-epsilons.result (length c.args.bs.now))) (length (slice_range c.args.arcs.now c.run_end-alone.result (length c.args.arcs.now))) (2 * length c.args.bs.now) (length c.args.arcs.now) c.args.steps.now c.put_runs.new.steps
    (omega (arith, rest_short c.args.bs.now c.run_end-epsilons.result)) (rest_short c.args.arcs.now c.run_end-alone.result) c.put_runs.ensures.cost

pub returns-clause-put : goal.returns-clause-put
returns-clause-put g c =
    let alone = c.run_end-alone.ensures in
    let epsilons = c.run_end-epsilons.ensures in
    ok_more c.put_seconds.result _ _ (order_whole g.W.Weight.KIND g.W.Weight.value c.args.key c.args.arcs.now c.args.bs.now _ _ c.requires.first c.requires.second alone.within epsilons.within alone.next epsilons.here epsilons.next _ _ _ _ c.in_ok-put_firsts.ensures c.in_ok-put_runs.ensures.put) c.put_seconds.ensures
