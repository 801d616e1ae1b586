use Rattle.std.proofs.Common.{◌≡◌, [], Some, length, sym, ap, ◌∙◌, arith}
use Rattle.std.specs.Option.{option_map}
use Rattle.fst_machine.specs.Store.{slot_arcs}
use Rattle.fst_machine.proofs.Keeping.{kept_get, kept_length, lies_at}
use Rattle.fst_machine.proofs.Retaining.{arcs_here}
use Rattle.fst_machine.proofs.fst.leaving.Leaving.arcs.Goals as goal

pub arcs-requires : goal.arcs-requires
arcs-requires g c =
    let slots = c.self.inside.slots.items in
    let store = c.self.inside.store.items in
    let same : length slots ≡ length c.args.self.now = sym (kept_length store [] 0 slots) ∙ ap length c.self.view_is in
    rw c.as_slice.ensures.value (lies_at slots (length store) c.args.place c.index-slot.result.now c.self.invariant (omega (arith, c.requires)) c.index-slot.ensures)

pub returns : goal.returns
returns g c =
    let slots = c.self.inside.slots.items in
    let store = c.self.inside.store.items in
    let s = c.index-slot.result.now in
    let same : length slots ≡ length c.args.self.now = sym (kept_length store [] 0 slots) ∙ ap length c.self.view_is in
    rw (← c.self.view_is) (ap (option_map (λ t. t.arcs)) (kept_get store [] slots c.args.place s (omega (arith, c.requires)) c.index-slot.ensures)
    ∙ ap Some (sym (c.arcs.ensures ∙ ap (λ st. slot_arcs st [] 0 s) c.as_slice.ensures.value ∙ (arcs_here store 0 s ∙ sym (arcs_here store c.args.place s)))))
