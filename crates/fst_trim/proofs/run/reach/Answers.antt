use Rattle.std.proofs.Common.{◌≡◌, ◌+◌, ◌-◌, ◌^◌, suc, length, arith}
use Rattle.fst_trim.proofs.Halving.{can_search, none_greater, none_lower}
use Rattle.fst_trim.proofs.run.reach.Goals as goal

pub loop-low-preserved : goal.loop-low-preserved
loop-low-preserved g c =
    let a = c.index-arcs-probe.result in
    let times = c.loop-low.invariant.doubled.0 in
    let probe = c.loop-low.low + (c.loop-low.low - c.args.start) - 1 in
    record {
      after = omega (arith, c.loop-low.invariant.after);
      within = omega (arith, c.loop-low.invariant.after);
      before = λ k d low. let most = none_greater c.args.side c.args.arcs.now c.requires.sorted probe a (omega (arith, c.loop-low.invariant.after)) c.index-arcs-probe.is k d low in omega (arith, most, c.in-Less.ensures.order);
      doubled = (suc times, (let more : 2 ^ suc times ≡ 2 ^ times + 2 ^ times = omega arith in omega (arith, c.loop-low.invariant.doubled.1, more)), (let more = c.compare.ensures.step in let so_far = c.loop-low.invariant.doubled.2 in omega arith));
    }

pub returns-in-Equal-clause-from : goal.returns-in-Equal-clause-from
returns-in-Equal-clause-from g c k d past low =
    let least = none_lower c.args.side c.args.arcs.now c.requires.sorted (c.loop-low.low + (c.loop-low.low - c.args.start) - 1) c.index-arcs-probe.result (omega (arith, c.loop-low.invariant.after)) c.index-arcs-probe.is k d past low in
    omega (arith, least, c.in-Equal.ensures.order)

pub returns-in-Greater-clause-from : goal.returns-in-Greater-clause-from
returns-in-Greater-clause-from g c k d past low =
    let least = none_lower c.args.side c.args.arcs.now c.requires.sorted (c.loop-low.low + (c.loop-low.low - c.args.start) - 1) c.index-arcs-probe.result (omega (arith, c.loop-low.invariant.after)) c.index-arcs-probe.is k d past low in
    omega (arith, least, c.in-Greater.ensures.order)

pub returns-in-Equal-clause-cost : goal.returns-in-Equal-clause-cost
returns-in-Equal-clause-cost g c =
    let doubled = c.loop-low.invariant.doubled in
    can_search (length c.args.arcs.now) _ c.args.steps.now c.compare.new.steps doubled.0 (omega (arith, doubled.1, c.loop-low.invariant.after)) (omega (arith, doubled.1, c.loop-low.invariant.within)) (omega (arith, doubled.2, c.compare.ensures.step))

pub returns-in-Greater-clause-cost : goal.returns-in-Greater-clause-cost
returns-in-Greater-clause-cost g c =
    let doubled = c.loop-low.invariant.doubled in
    can_search (length c.args.arcs.now) _ c.args.steps.now c.compare.new.steps doubled.0 (omega (arith, doubled.1, c.loop-low.invariant.after)) (omega (arith, doubled.1, c.loop-low.invariant.within)) (omega (arith, doubled.2, c.compare.ensures.step))

pub returns-clause-cost : goal.returns-clause-cost
returns-clause-cost g c =
    let doubled = c.loop-low.invariant.doubled in
    can_search (length c.args.arcs.now) _ c.args.steps.now c.loop-low.steps doubled.0 (omega (arith, doubled.1, c.loop-low.invariant.after, c.loop-low-test.false)) (omega (arith, doubled.1, c.loop-low.invariant.within)) (omega (arith, doubled.2))
