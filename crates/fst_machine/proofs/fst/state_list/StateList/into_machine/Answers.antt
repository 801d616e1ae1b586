use Rattle.std.proofs.Common.{◌≡◌, [], length, sym, ap, ◌∙◌, arith}
use Rattle.fst_machine.proofs.Keeping.{IsKept-made, kept_length}
use Rattle.fst_machine.proofs.fst.state_list.StateList.into_machine.Goals as goal

pub invariant_of-result : goal.invariant_of-result
invariant_of-result g c =
    let slots = c.self.inside.slots.items in
    let store = c.self.inside.store.items in
    let same : length slots ≡ length c.args.self = sym (kept_length store [] 0 slots) ∙ ap length c.self.view_is in
    rw c.new.ensures.items (IsKept-made slots store c.len-total.result (omega (arith, c.len-total.ensures)) c.self.invariant.0 c.self.invariant.1 (omega (arith, c.requires.few_states)))
