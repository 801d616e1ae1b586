use Rattle.std.proofs.Common.{◌+◌, ◌-◌, ◌/◌, arith, subst, sym}
use Rattle.fst_trim.proofs.Halving.{LeavesSteps, all_left, none_greater, none_lower, one_taken, taken_all}
use Rattle.fst_trim.proofs.run.first_place.Goals as goal

pub loop-low-init : goal.loop-low-init
loop-low-init g c = record {
  start = omega arith;
  order = omega arith;
  within = omega arith;
  before = λ k d past low. absurd (omega arith);
  from = λ k d past low. absurd (omega arith);
  unmet = λ e k d past low. absurd (omega arith);
  cost = all_left (c.args.stop - c.args.start) (c.args.stop - c.args.start) c.args.steps.now (omega arith);
}

pub loop-low-preserved-in-Less : goal.loop-low-preserved-in-Less
loop-low-preserved-in-Less g c =
    let a = c.index-arcs-middle.result in
    let middle = c.loop-low.low + (c.loop-low.high - c.loop-low.low) / 2 in
    record {
      start = omega (arith, c.loop-low.invariant.start);
      order = omega (arith, c.loop-low.invariant.order);
      within = c.loop-low.invariant.within;
      before = λ k d past low. let most = none_greater c.args.side c.args.arcs.now c.requires.sorted middle a (omega (arith, c.loop-low.invariant.within, c.requires.within)) c.index-arcs-middle.is k d low in omega (arith, most, c.in-Less.ensures.order);
      from = c.loop-low.invariant.from;
      unmet = c.loop-low.invariant.unmet;
      cost = subst (LeavesSteps _ _ _) (sym c.compare.ensures.step) (one_taken _ (c.loop-low.high - c.loop-low.low) _ _ _ c.loop-low.invariant.cost (omega arith) (omega arith));
    }

pub loop-low-preserved-in-Equal : goal.loop-low-preserved-in-Equal
loop-low-preserved-in-Equal g c =
    let a = c.index-arcs-middle.result in
    let middle = c.loop-low.low + (c.loop-low.high - c.loop-low.low) / 2 in
    record {
      start = omega (arith, c.loop-low.invariant.start);
      order = omega arith;
      within = omega (arith, c.loop-low.invariant.within);
      before = c.loop-low.invariant.before;
      from = λ k d past low. let least = none_lower c.args.side c.args.arcs.now c.requires.sorted middle a (omega (arith, c.loop-low.invariant.within, c.requires.within)) c.index-arcs-middle.is k d past (omega arith) in omega (arith, least, c.in-Equal.ensures.order);
      unmet = λ e. absurd (cc);
      cost = subst (LeavesSteps _ _ _) (sym c.compare.ensures.step) (one_taken _ (c.loop-low.high - c.loop-low.low) _ _ _ c.loop-low.invariant.cost (omega arith) (omega arith));
    }

pub loop-low-preserved : goal.loop-low-preserved
loop-low-preserved g c =
    let a = c.index-arcs-middle.result in
    let middle = c.loop-low.low + (c.loop-low.high - c.loop-low.low) / 2 in
    record {
      start = omega (arith, c.loop-low.invariant.start);
      order = omega arith;
      within = omega (arith, c.loop-low.invariant.within);
      before = c.loop-low.invariant.before;
      from = λ k d past low. let least = none_lower c.args.side c.args.arcs.now c.requires.sorted middle a (omega (arith, c.loop-low.invariant.within, c.requires.within)) c.index-arcs-middle.is k d past (omega arith) in omega (arith, least, c.in-Greater.ensures.order);
      unmet = λ e k d past low. let least = none_lower c.args.side c.args.arcs.now c.requires.sorted middle a (omega (arith, c.loop-low.invariant.within, c.requires.within)) c.index-arcs-middle.is k d past (omega arith) in omega (arith, least, c.in-Greater.ensures.order);
      cost = subst (LeavesSteps _ _ _) (sym c.compare.ensures.step) (one_taken _ (c.loop-low.high - c.loop-low.low) _ _ _ c.loop-low.invariant.cost (omega arith) (omega arith));
    }

pub returns-clause-cost : goal.returns-clause-cost
returns-clause-cost g c = taken_all (c.args.stop - c.args.start) _ c.args.steps.now c.loop-low.steps c.loop-low.invariant.cost
