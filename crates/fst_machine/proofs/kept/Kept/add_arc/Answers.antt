use Rattle.std.proofs.Common.{◌≡◌, length, sym, ap, ◌∙◌, arith}
use Rattle.fst_machine.specs.Machine.{with_arc}
use Rattle.fst_machine.specs.Store.{kept_states}
use Rattle.fst_machine.proofs.Changes.{set-changed}
use Rattle.fst_machine.proofs.Keeping.{IsKept-put, kept_states-put, kept_length, kept_read, lies_at}
use Rattle.fst_machine.proofs.kept.Kept.add_arc.Goals as goal

pub put-requires-clause-inside : goal.put-requires-clause-inside
put-requires-clause-inside g c =
    let slots = c.self.inside.slots.items in
    let store = c.self.inside.store.items in
    let same : length slots ≡ length c.args.self.now.states = sym (kept_length store c.self.inside.apart.items 0 slots) ∙ ap (λ m. length m.states) c.self.view_is in
    lies_at slots (length store) c.args.state c.index_mut-slot.result.now c.self.invariant.parts (omega (arith, c.requires)) c.index_mut-slot.ensures.value

pub invariant_of-self-2 : goal.invariant_of-self-2
invariant_of-self-2 g c =
    let slots = c.self.inside.slots.items in
    let store = c.self.inside.store.items in
    let apart = c.self.inside.apart.items in
    let same : length slots ≡ length c.args.self.now.states = sym (kept_length store apart 0 slots) ∙ ap (λ m. length m.states) c.self.view_is in
    IsKept-put slots store c.put.new.store.items apart c.put.new.apart.items c.self.inside.total c.args.state c.args.arc c.index_mut-slot.result.now c.put.new.self c.self.invariant (omega (arith, c.requires)) c.index_mut-slot.ensures.value c.in_ok-put.ensures.ok

pub returns-clause-ok : goal.returns-clause-ok
returns-clause-ok g c =
    let slots = c.self.inside.slots.items in
    let store = c.self.inside.store.items in
    let apart = c.self.inside.apart.items in
    let before = c.index_mut-slot.result.now in
    let same : length (kept_states store apart slots) ≡ length c.args.self.now.states = ap (λ m. length m.states) c.self.view_is in
    rw (← c.self.view_is) (ap (λ ss. record { start = c.self.inside.start; states = ss })
    (kept_states-put c.args.arc store c.put.new.store.items apart c.put.new.apart.items slots c.args.state before c.put.new.self c.self.invariant.parts c.in_ok-put.ensures.ok
    ∙ set-changed (with_arc c.args.arc) (kept_states store apart slots) c.args.state _ _ (omega (arith, c.requires)) (ap (with_arc c.args.arc) (kept_read store apart slots c.args.state before c.index_mut-slot.ensures.value))))
