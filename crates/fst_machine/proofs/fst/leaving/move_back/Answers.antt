use Rattle.std.proofs.Common.{◌≡◌, set, sym, ap, ◌∙◌, arith}
use Rattle.std.proofs.lemmas.List.Edits.{map_over_more}
use Rattle.fst_machine.specs.Forgetting.{first_back, moved_back}
use Rattle.fst_machine.proofs.Extending.{changed_all}
use Rattle.fst_machine.proofs.Forgetting.{first_back_is, first_back_none}
use Rattle.fst_machine.proofs.fst.leaving.move_back.Goals.{then-slot-gt0, else-slot-gt0}
use Rattle.fst_machine.proofs.fst.leaving.move_back.Goals as goal

pub loop-place-preserved : goal.loop-place-preserved
loop-place-preserved g c =
    let by = c.args.by in
    let old = c.slot.inside in
    let items = c.loop-place.slots.items in
    let first : c.if-slot-gt0.first ≡ first_back by old.first old.count = elim c.if-slot-gt0.branch [
      | then-slot-gt0 w ↦ w.first-is ∙ sym (first_back_is by old.first old.count w.if-slot-gt0.true)
      | else-slot-gt0 w ↦ w.first-is ∙ sym (first_back_none by old.first old.count w.if-slot-gt0.false)
    ] in
    ap (λ n. set items c.loop-place.place (record { final = old.last; first = n; count = old.count })) first
    ∙ ap (λ s. set items c.loop-place.place (moved_back by s)) c.slot.view_is
    ∙ map_over_more (moved_back by) c.args.slots.now.items items c.loop-place.place c.index-slot.result.now (omega (arith, c.loop-place-test.true, c.len-place-end.ensures)) c.loop-place.invariant c.index-slot.ensures

pub returns : goal.returns
returns g c = changed_all (moved_back c.args.by) c.args.slots.now.items c.loop-place.slots.items c.loop-place.place (omega (arith, c.len-place-end.ensures)) c.loop-place.invariant
