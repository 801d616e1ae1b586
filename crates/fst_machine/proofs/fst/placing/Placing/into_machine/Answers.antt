use Rattle.std.proofs.Common.{◌≡◌, ◌-◌, [], length, sym, ap, ◌∙◌, arith}
use Rattle.fst_machine.specs.Machine.{arc_total}
use Rattle.fst_machine.specs.Placing.{arc_counts, rooms_of}
use Rattle.fst_machine.specs.Store.{kept_states}
use Rattle.fst_machine.proofs.Keeping.{IsKept-made, kept_length}
use Rattle.fst_machine.proofs.Rooms.{full_store, parts_lie}
use Rattle.fst_machine.proofs.fst.placing.Placing.into_machine.Goals as goal

pub invariant_of-result : goal.invariant_of-result
invariant_of-result g c =
    let slots = c.self.inside.slots.items in
    let store = c.self.inside.store.items in
    let end = c.self.inside.end in
    let states = ap (λ p. p.states) c.self.view_is in
    let same : length slots ≡ length c.args.self.states = sym (kept_length store [] 0 slots) ∙ ap length states in
    let full : arc_counts (kept_states store [] slots) ≡ rooms_of slots end = ap arc_counts states ∙ (c.requires.full ∙ sym (ap (λ p. p.rooms) c.self.view_is)) in
    let given : length store - end ≡ 0 = ap (λ p. p.left) c.self.view_is ∙ c.requires.given in
    let count : length store ≡ arc_total (kept_states store [] slots) = full_store (kept_states store [] slots) slots end (length store) c.self.invariant full given in
    rw c.new.ensures.items (IsKept-made slots store c.len-total.result (omega (arith, c.len-total.ensures)) count (parts_lie slots end (length store) c.self.invariant.rooms c.self.invariant.inside) (omega (arith, c.requires.machine.few_states, same)))
