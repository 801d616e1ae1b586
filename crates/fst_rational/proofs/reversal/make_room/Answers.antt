use Rattle.std.proofs.Common.{◌≡◌, get_or, length, map, ap, arith}
use Rattle.std.specs.List.{range_with_len}
use Rattle.std.proofs.lemmas.List.Sums.{sum_by-cons}
use Rattle.fst_semiring.specs.Cost.{Cost, infinite}
use Rattle.fst_machine.specs.Machine.{State, valued}
use Rattle.fst_rational.specs.Constructions.{final_arcs, turned_state}
use Rattle.fst_machine.proofs.Valued.{IsMachine-valued, arc_total-valued}
use Rattle.fst_rational.proofs.Backing.{arc_total-reverse}
use Rattle.fst_rational.proofs.reversal.make_room.Goals as goal

pub with_capacity-requires : goal.with_capacity-requires
with_capacity-requires g c =
    let value = g.W.Weight.value in
    let kind = g.W.Weight.KIND in
    let a = valued value c.args.a.now in
    let good = IsMachine-valued value c.args.a.now c.states-states.ensures.machine in
    let first : get_or c.args.counts.now 0 0 ≡ length (final_arcs 1 a.states) = ap (λ ns. get_or ns 0 0) c.requires.counts in
    omega (arith, first, arc_total-reverse kind a good, arc_total-valued value c.args.a.now.states, c.arc_count.ensures, c.requires.small.arcs)

pub put_bare-requires-clause-left : goal.put_bare-requires-clause-left
put_bare-requires-clause-left g c =
    let value = g.W.Weight.value in
    let kind = g.W.Weight.KIND in
    let a = valued value c.args.a.now in
    let good = IsMachine-valued value c.args.a.now c.states-states.ensures.machine in
    let rest = map (turned_state kind a) (range_with_len 0 (length a.states)) in
    let first : get_or c.args.counts.now 0 0 ≡ length (final_arcs 1 a.states) = ap (λ ns. get_or ns 0 0) c.requires.counts in
    let all = sum_by-cons (λ (t : State Cost). length t.arcs) (record { final = infinite; arcs = final_arcs 1 a.states }) rest in
    let left = ap (λ p. p.left) c.in_ok-push.ensures.ok in
    let before = ap (λ p. p.left) c.in_ok-states.ensures in
    omega (arith, first, all, left, before, arc_total-reverse kind a good, arc_total-valued value c.args.a.now.states, c.arc_count.ensures)
