use Rattle.std.proofs.Common.{sym, ◌∙◌, arith}
use Rattle.fst_machine.specs.Store.{Slot}
use Rattle.fst_machine.proofs.Retaining.{put_state, retained, skipped}
use Rattle.fst_machine.proofs.fst.retain.retain_states.Goals as goal

pub loop-state-preserved-then-not-marks-state : goal.loop-state-preserved-then-not-marks-state
loop-state-preserved-then-not-marks-state g c =
    let s : Slot g.row.V.Denot = c.index-slots-state.result in
    skipped c.args.marks.now c.args.numbers.now c.args.slots.now c.args.store.now c.loop-state.store c.loop-state.state c.loop-state.end c.loop-state.kept.items s s (omega arith) (sym c.index-slots-state.is) c.requires.parts c.loop-state.invariant c.if-not-marks-state.true

pub loop-state-preserved : goal.loop-state-preserved
loop-state-preserved g c =
    let s : Slot g.row.V.Denot = record { final = c.slot.inside.last; first = c.slot.inside.first; count = c.slot.inside.count } in
    let e = c.retain_arcs-end.ensures in
    put_state c.args.marks.now c.args.numbers.now c.args.slots.now c.args.store.now c.loop-state.store c.loop-state.state c.loop-state.end c.loop-state.kept.items s c.index-slots-state.result (omega arith) (sym c.index-slots-state.is ∙ sym c.slot.view_is) c.requires.parts c.loop-state.invariant c.if-not-marks-state.false c.retain_arcs-end.new.store c.retain_arcs-end.result c.push.new.self.items e.kept e.behind e.size e.low e.high (c.in_ok-push.ensures).items

pub returns-clause-retained : goal.returns-clause-retained
returns-clause-retained g c = retained c.args.marks.now c.args.numbers.now c.args.slots.now c.args.store.now c.loop-state.store c.loop-state.state c.loop-state.end c.loop-state.kept.items (omega arith) c.loop-state.invariant
