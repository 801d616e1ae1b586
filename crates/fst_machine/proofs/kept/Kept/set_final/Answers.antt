use Rattle.std.proofs.Common.{◌≡◌, length, sym, ap, ◌∙◌, arith}
use Rattle.fst_machine.specs.Machine.{with_final}
use Rattle.fst_machine.specs.Store.{kept_states}
use Rattle.fst_machine.proofs.Changes.{set-changed, read_as}
use Rattle.fst_machine.proofs.Keeping.{IsKept-final, kept_states-final, kept_read, kept_length}
use Rattle.fst_machine.proofs.kept.Kept.set_final.Goals as goal

pub invariant_of-self : goal.invariant_of-self
invariant_of-self g c =
    let slots = c.self.inside.slots.items in
    let store = c.self.inside.store.items in
    let apart = c.self.inside.apart.items in
    let same : length slots ≡ length c.args.self.now.states = sym (kept_length store apart 0 slots) ∙ ap (λ m. length m.states) c.self.view_is in
    IsKept-final slots store apart c.self.inside.total c.args.state c.args.weight _ c.self.invariant (omega (arith, c.requires)) (read_as slots c.args.state _ _ c.slot.view_is c.index_mut-slot.ensures.value)

pub returns : goal.returns
returns g c =
    let slots = c.self.inside.slots.items in
    let store = c.self.inside.store.items in
    let apart = c.self.inside.apart.items in
    let read = read_as slots c.args.state _ _ c.slot.view_is c.index_mut-slot.ensures.value in
    let same : length (kept_states store apart slots) ≡ length c.args.self.now.states = ap (λ m. length m.states) c.self.view_is in
    rw (← c.self.view_is) (ap (λ ss. record { start = c.self.inside.start; states = ss })
    (kept_states-final store apart slots c.args.state c.args.weight (record { final = c.slot.inside.last; first = c.slot.inside.first; count = c.slot.inside.count })
    ∙ set-changed (with_final c.args.weight) (kept_states store apart slots) c.args.state _ _ (omega (arith, c.requires)) (ap (with_final c.args.weight) (kept_read store apart slots c.args.state _ read))))
