use Rattle.std.proofs.Common.{◌<◌, length}
use Rattle.fst_machine.specs.declared.fst.GrowFault.TheVariants.{TooManyArcs}
use Rattle.fst_machine.specs.Machine.{IsArc, arc_total, most_arcs}
use Rattle.fst_machine.proofs.Changes.{IsMachine-with_arc, has_room}
use Rattle.fst_machine.proofs.fst.Fst.add_arc.Goals as goal

pub invariant_of-self-2 : goal.invariant_of-self-2
invariant_of-self-2 g c =
    let m = c.self.inside.kept in
    let good : IsArc g.W.Weight.value (length m.states) c.args.arc = record { ilabel = c.requires.ilabel; olabel = c.requires.olabel; weight = c.requires.weight; next = rw c.self.view_is c.requires.next } in
    let room : arc_total m.states < most_arcs = has_room c.add_arc.result _ TooManyArcs (arc_total m.states) most_arcs c.in_ok-add_arc.was c.add_arc.ensures.full in
    rw c.in_ok-add_arc.ensures.ok (IsMachine-with_arc g.W.Weight.value m c.args.state c.args.arc c.self.invariant (rw c.self.view_is c.requires.state) good room)
