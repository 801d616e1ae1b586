use Rattle.std.proofs.Common.{◌≡◌, ◌<◌, ℕ, ◌+◌, ◌-◌, get_or, length, map, subst, sym, ap, ◌∙◌, arith}
use Rattle.fst_machine.specs.Machine.{Arc, IsArc, valued_arc, valued_state, with_arc}
use Rattle.fst_machine.specs.Placing.{arc_counts}
use Rattle.fst_rational.specs.Backing.{back, put_back}
use Rattle.fst_rational.proofs.Backing.{back_step, length-changed}
use Rattle.fst_rational.proofs.Counting.{room_here}
use Rattle.fst_rational.proofs.reversal.put_arcs_back.Goals as goal

pub overflow_add-arc-inside : goal.overflow_add-arc-inside
overflow_add-arc-inside g c =
    let value = g.W.Weight.value in
    let n = length c.args.states.now.states - 1 in
    let good : IsArc value n c.arc-item.result = subst (IsArc value n) (sym c.arc-item.is) (c.requires.good c.loop-arc.arc-index c.arc-item.result c.loop-arc-test.true) in
    omega (arith, good.next, ap (λ x. x.next) c.arc.view_is, c.requires.few)

pub put-requires : goal.put-requires
put-requires g c =
    let value = g.W.Weight.value in
    let n = length c.args.states.now.states - 1 in
    let x = c.arc-item.result in
    let good : IsArc value n x = subst (IsArc value n) (sym c.arc-item.is) (c.requires.good c.loop-arc.arc-index x c.loop-arc-test.true) in
    let same : c.arc.inside.next ≡ x.next = ap (λ y. y.next) c.arc.view_is in
    let whole = put_back c.args.place (map (valued_arc value) c.args.arcs.now) (map (valued_state value) c.args.states.now.states) in
    let place : 1 + x.next < length c.loop-arc.states.states = omega (arith, good.next, c.loop-arc.invariant.size) in
    let room = room_here value c.args.place c.args.arcs.now c.loop-arc.arc-index x c.loop-arc.states.states whole c.loop-arc-test.true c.arc-item.is c.loop-arc.invariant.states place in
    omega (arith, room, c.requires.room (1 + x.next), ap (λ ns. get_or ns (1 + x.next) 0) c.loop-arc.invariant.rooms, ap (λ k. get_or (arc_counts c.loop-arc.states.states) (1 + k) 0) same, ap (λ k. get_or c.loop-arc.states.rooms (1 + k) 0) same)

pub loop-arc-preserved : goal.loop-arc-preserved
loop-arc-preserved g c =
    let value = g.W.Weight.value in
    let states = c.loop-arc.states.states in
    let arc : Arc g.row.W.Denot ℕ = record { ilabel = c.arc.inside.ilabel; olabel = c.arc.inside.olabel; weight = c.arc.inside.weight; next = c.arc.inside.next } in
    let put = ap (λ p. p.states) c.put.ensures in
    record {
      states = back_step value c.args.place c.args.arcs.now c.loop-arc.arc-index c.arc-item.result arc states _ _ c.loop-arc-test.true c.arc-item.is c.arc.view_is put c.loop-arc.invariant.states;
      size = ap length put ∙ (length-changed (with_arc (back c.args.place arc)) states (1 + arc.next) ∙ c.loop-arc.invariant.size);
      rooms = ap (λ p. p.rooms) c.put.ensures ∙ c.loop-arc.invariant.rooms;
      left = ap (λ p. p.left) c.put.ensures ∙ c.loop-arc.invariant.left;
    }
