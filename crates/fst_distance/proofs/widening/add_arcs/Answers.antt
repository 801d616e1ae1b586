use Rattle.std.proofs.Common.{ℕ, length, map, take, refl, sym, ap, ◌∙◌, subst, arith}
use Rattle.std.proofs.lemmas.List.{length-take-le}
use Rattle.fst_machine.specs.Machine.{Arc, IsArc, Machine, valued_arc}
use Rattle.fst_machine.proofs.Valued.{arc_total-valued}
use Rattle.fst_distance.proofs.Filling.{arcs_first, arcs_next, arcs_size, arcs_total}
use Rattle.fst_distance.proofs.widening.add_arcs.Goals as goal

pub loop-arc-init : goal.loop-arc-init
loop-arc-init g c = record { states = arcs_first g.W.Weight.wide_value c.args.machine.now.states c.args.state; start = refl }

pub add_arc-requires-clause-state : goal.add_arc-requires-clause-state
add_arc-requires-clause-state g c =
    let w = g.W.Weight in
    let same = arcs_size w.wide_value c.args.machine.now.states c.loop-arc.machine.states c.args.state (map (valued_arc w.wide_value) (take c.loop-arc.arc-index c.args.arcs.now)) c.loop-arc.invariant.states in
    omega (arith, same, c.requires.state)

pub add_arc-requires-clause-arc : goal.add_arc-requires-clause-arc
add_arc-requires-clause-arc g c =
    let w = g.W.Weight in
    let same = arcs_size w.wide_value c.args.machine.now.states c.loop-arc.machine.states c.args.state (map (valued_arc w.wide_value) (take c.loop-arc.arc-index c.args.arcs.now)) c.loop-arc.invariant.states in
    let a = c.arc-item.result in
    let good : IsArc w.wide_value (length c.args.machine.now.states) a = subst (λ (b : Arc _ ℕ). IsArc w.wide_value (length c.args.machine.now.states) b) (sym c.arc-item.is) (c.requires.arcs c.loop-arc.arc-index a c.loop-arc-test.true) in
    subst (λ (n : ℕ). IsArc w.wide_value n a) (sym same) good

pub add_arc-requires-clause-room : goal.add_arc-requires-clause-room
add_arc-requires-clause-room g c =
    let w = g.W.Weight in
    let low = c.loop-arc-test.true in
    let all = arcs_total w.wide_value c.args.machine.now.states c.loop-arc.machine.states c.args.state c.loop-arc.arc-index c.args.arcs.now c.requires.state c.loop-arc.invariant.states in
    let taken = length-take-le c.loop-arc.arc-index c.args.arcs.now (omega (arith, low)) in
    let now = arc_total-valued w.wide_value c.loop-arc.machine.states in
    let old = arc_total-valued w.wide_value c.args.machine.now.states in
    omega (arith, low, all, taken, now, old, c.requires.room)

pub loop-arc-preserved : goal.loop-arc-preserved
loop-arc-preserved g c =
    let w = g.W.Weight in
    record {
      states = arcs_next w.wide_value c.args.machine.now.states c.loop-arc.machine.states c.add_arc.new.machine.states c.args.state c.loop-arc.arc-index c.args.arcs.now c.arc-item.result c.loop-arc-test.true c.arc-item.is
          (ap (λ (m : Machine _). m.states) c.in_ok-add_arc.ensures) c.loop-arc.invariant.states;
      start = ap (λ (m : Machine _). m.start) c.in_ok-add_arc.ensures ∙ c.loop-arc.invariant.start;
    }
