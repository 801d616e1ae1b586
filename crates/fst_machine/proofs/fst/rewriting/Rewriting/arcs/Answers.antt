use Rattle.std.proofs.Common.{◌≡◌, [], Some, length, sym, ap, ◌∙◌, arith}
use Rattle.std.specs.Option.{option_map}
use Rattle.fst_machine.specs.Machine.{Machine}
use Rattle.fst_machine.specs.Store.{slot_arcs}
use Rattle.fst_machine.proofs.Keeping.{kept_get, kept_length}
use Rattle.fst_machine.proofs.Retaining.{arcs_here}
use Rattle.fst_machine.proofs.fst.rewriting.Rewriting.arcs.Goals as goal

pub returns : goal.returns
returns g c =
    let slots = c.self.inside.slots.items in
    let store = c.self.inside.store.items in
    let s = c.index-slot.result.now in
    let same : length slots ≡ length c.args.self.now.states = sym (kept_length store [] 0 slots) ∙ ap (λ (m : Machine g.row.W.Denot). length m.states) c.self.view_is in
    rw (← c.self.view_is) (ap (option_map (λ t. t.arcs)) (kept_get store [] slots c.args.state s (omega (arith, c.requires, same)) c.index-slot.ensures)
    ∙ ap Some (sym (c.arcs.ensures ∙ ap (λ st. slot_arcs st [] 0 s) c.as_slice.ensures.value ∙ (arcs_here store 0 s ∙ sym (arcs_here store c.args.state s)))))
