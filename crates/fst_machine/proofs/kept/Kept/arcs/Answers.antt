use Rattle.std.proofs.Common.{◌≡◌, Some, length, sym, ap, ◌∙◌, arith}
use Rattle.std.specs.Option.{option_map}
use Rattle.fst_machine.specs.Store.{slot_arcs}
use Rattle.fst_machine.proofs.Keeping.{kept_get, kept_length, lies_at}
use Rattle.fst_machine.proofs.kept.Kept.arcs.Goals as goal

pub arcs-requires : goal.arcs-requires
arcs-requires g c =
    let slots = c.self.inside.slots.items in
    let store = c.self.inside.store.items in
    let same : length slots ≡ length c.args.self.now.states = sym (kept_length store c.self.inside.apart.items 0 slots) ∙ ap (λ m. length m.states) c.self.view_is in
    rw c.as_slice.ensures.value (lies_at slots (length store) c.args.state c.index-slot.result.now c.self.invariant.parts (omega (arith, c.requires)) c.index-slot.ensures)

pub returns : goal.returns
returns g c =
    let slots = c.self.inside.slots.items in
    let store = c.self.inside.store.items in
    let apart = c.self.inside.apart.items in
    let s = c.index-slot.result.now in
    let same : length slots ≡ length c.args.self.now.states = sym (kept_length store apart 0 slots) ∙ ap (λ m. length m.states) c.self.view_is in
    rw (← c.self.view_is) (ap (option_map (λ t. t.arcs)) (kept_get store apart slots c.args.state s (omega (arith, c.requires)) c.index-slot.ensures)
    ∙ ap Some (sym (c.arcs.ensures ∙ ap (λ st. slot_arcs st c.as_slice-2.result.now c.args.state s) c.as_slice.ensures.value ∙ ap (λ lists. slot_arcs store lists c.args.state s) c.as_slice-2.ensures.value)))
