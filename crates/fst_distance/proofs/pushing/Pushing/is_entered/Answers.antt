use Rattle.std.proofs.Common.{◌≤◌, ◌+◌, length, refl, sym, ap, subst, arith}
use Rattle.fst_machine.specs.Machine.{Machine}
use Rattle.fst_semiring.specs.Cost.{Cost}
use Rattle.fst_distance.specs.Totals.{IsEntered}
use Rattle.fst_distance.specs.Values.{LeadsTo, value_in}
use Rattle.fst_distance.proofs.Entering.{NoneEnters, entered_at, none_enters_next, not_entered}
use Rattle.fst_distance.proofs.View.{Reads, reads, view_size}
use Rattle.fst_distance.proofs.pushing.Pushing.is_entered.Given.{Over}
use Rattle.fst_distance.proofs.pushing.Pushing.is_entered.Goals.{After-fst-fst}
use Rattle.fst_distance.proofs.pushing.Pushing.is_entered.Goals as goal

-- what is read of the pushing
sees : (g : Over) (c : After-fst-fst g) → Reads g.W.Weight.KIND g.W.Weight.value g.W.Weight.wide_value c.self.inside.distances.items c.args.self.now c.fst-fst.result.now
sees g c = reads g.W.Weight.KIND g.W.Weight.value g.W.Weight.wide_value c.self.inside.distances.items _ _ _ c.fst-fst.ensures c.self.invariant c.self.view_is

pub loop-from-init : goal.loop-from-init
loop-from-init g c p i a less = omega arith

pub returns-then-leads_to : goal.returns-then-leads_to
returns-then-leads_to g c =
    let w = g.W.Weight in
    let view_is = (sees g (goal.at.returns-then-leads_to g c).After-fst-fst).view_is in
    let entered = entered_at w.KIND w.value (value_in w.wide_value c.self.inside.distances.items) c.fst-fst.result.now c.args.state c.loop-from.from c.arcs.result.now c.arcs.ensures (subst (LeadsTo c.arcs.result.now c.args.state) c.if-leads_to.true c.leads_to.ensures) in
    ((λ e. subst (λ (m : Machine Cost). IsEntered m c.args.state) view_is entered), (λ h. refl))

pub loop-from-preserved : goal.loop-from-preserved
loop-from-preserved g c =
    let w = g.W.Weight in
    let view_is = (sees g (goal.at.loop-from-preserved g c).After-fst-fst).view_is in
    subst (λ (m : Machine Cost). NoneEnters m (c.loop-from.from + 1) c.args.state) view_is
    (none_enters_next w.KIND w.value (value_in w.wide_value c.self.inside.distances.items) c.fst-fst.result.now c.args.state c.loop-from.from c.arcs.result.now c.arcs.ensures (subst (LeadsTo c.arcs.result.now c.args.state) c.if-leads_to.false c.leads_to.ensures)
    (subst (λ (m : Machine Cost). NoneEnters m c.loop-from.from c.args.state) (sym view_is) c.loop-from.invariant))

pub returns : goal.returns
returns g c =
    let r = sees g (goal.at.returns g c).After-fst-fst in
    let count = view_size g.W.Weight.KIND g.W.Weight.value g.W.Weight.wide_value c.fst-fst.result.now c.self.inside.distances.items r.size r.has in
    let same = ap (λ (m : Machine Cost). length m.states) r.view_is in
    let all : length c.args.self.now.states ≤ c.loop-from.from = let a = c.states-from-end.ensures.value in let b = c.loop-from-test.false in omega (arith, a, b, count, same) in
    ((λ e. absurd (cc)), (λ h. absurd (not_entered c.args.self.now c.loop-from.from c.args.state all c.loop-from.invariant h)))
