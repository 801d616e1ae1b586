use Rattle.std.proofs.Common.{◌≡◌, ◌<◌, ◌≤◌, ◌+◌, ◌-◌, Some, length, drop, slice_get, refl, sym, ◌∙◌, subst, arith}
use Rattle.std.proofs.lemmas.List.{length-take-le, length-drop}
use Rattle.std.proofs.lemmas.Option.{slice_get_read}
use Rattle.fst_machine.specs.Store.{Slot, LiesIn}
use Rattle.fst_machine.proofs.Keeping.{lies_at}
use Rattle.fst_machine.proofs.ArcsChanged.{changing_all, changing_more}
use Rattle.fst_machine.proofs.fst.change.change_parts.Goals.{then-count-eq0, else-count-eq0}
use Rattle.fst_machine.proofs.fst.change.change_parts.Goals as goal

pub returns-clause-changed : goal.returns-clause-changed
returns-clause-changed g c = changing_all (g.C.ArcsChange.changes c.args.change.now) c.args.slots.now c.args.store.now c.loop-slot.store c.loop-slot.slot-index (omega arith) c.loop-slot.invariant

pub loop-slot-preserved : goal.loop-slot-preserved
loop-slot-preserved g c =
    let s : Slot g.row.W.Denot = record { final = c.slot.inside.last; first = c.slot.inside.first; count = c.slot.inside.count } in
    let first = c.if-count-eq0.first in
    let count = c.slot.inside.count in
    let none : count ≡ 0 → first ≡ 0 = λ e. elim c.if-count-eq0.branch [ then-count-eq0 w ↦ w.first-is | else-count-eq0 w ↦ absurd (w.if-count-eq0.false e) ] in
    let some : 0 < count → first ≡ c.slot.inside.first = λ low. elim c.if-count-eq0.branch [ then-count-eq0 w ↦ absurd (omega (arith, low, w.if-count-eq0.true)) | else-count-eq0 w ↦ w.first-is ] in
    let at = c.loop-slot.slot-index in
    let read = slice_get_read c.args.slots.now (length c.args.slots.now) at c.slot-item.result refl c.loop-slot-test.true c.slot-item.is in
    let here : slice_get c.args.slots.now at ≡ Some s = subst (λ (t : Slot g.row.W.Denot). slice_get c.args.slots.now at ≡ Some t) (sym c.slot.view_is) read in
    let inside : LiesIn (length c.args.store.now) c.slot-item.result = lies_at c.args.slots.now (length c.args.store.now) at c.slot-item.result c.requires.parts c.loop-slot-test.true c.slot-item.is in
    let lies : LiesIn (length c.args.store.now) s = subst (λ (t : Slot g.row.W.Denot). LiesIn (length c.args.store.now) t) (sym c.slot.view_is) inside in
    let room : first + count ≤ length c.loop-slot.store = elim c.if-count-eq0.branch [ then-count-eq0 w ↦ omega (arith, w.first-is, w.if-count-eq0.true) | else-count-eq0 w ↦ omega (arith, w.first-is, lies (omega (arith, w.if-count-eq0.false)), c.loop-slot.invariant.size) ] in
    let size : length c.change.new.arcs ≡ first + count - first =
    c.in_ok-change.ensures.size ∙ length-take-le (first + count - first) (drop first c.loop-slot.store) (omega (arith, room, length-drop first c.loop-slot.store)) in
    changing_more (g.C.ArcsChange.changes c.args.change.now) c.args.slots.now c.args.store.now c.loop-slot.store c.change.new.arcs c.loop-slot.slot-index first (first + count - first) s here c.requires.follow lies none some (omega arith) size c.in_ok-change.ensures.changed c.loop-slot.invariant
