use Rattle.std.proofs.Common.{All, List, [], map, sym, ap, ◌∙◌, subst}
use Rattle.fst_machine.specs.Extending.{HasRoom, shifted_state}
use Rattle.fst_machine.specs.Machine.{State}
use Rattle.fst_machine.specs.Store.{kept_states}
use Rattle.fst_machine.proofs.Extending.{shifted_fields, states_shifted, written_each}
use Rattle.fst_machine.proofs.fst.state_list.StateList.shift.Goals as goal

pub invariant_of-self : goal.invariant_of-self
invariant_of-self g c =
    let store = c.self.inside.store in
    let room = subst (λ (ss : List (State g.row.W.Denot)). All (HasRoom c.args.by) ss) (sym c.self.view_is) c.requires in
    let stored = written_each c.args.by store.len store.items c.as_mut_slice.result.now c.shift_arcs.new.store c.as_mut_slice.ensures.value c.as_mut_slice.ensures.len c.shift_arcs.ensures in
    shifted_fields c.args.by store.items _ c.self.inside.slots.items stored room c.self.invariant

pub returns : goal.returns
returns g c =
    let store = c.self.inside.store in
    let slots = c.self.inside.slots.items in
    let room = subst (λ (ss : List (State g.row.W.Denot)). All (HasRoom c.args.by) ss) (sym c.self.view_is) c.requires in
    let stored = written_each c.args.by store.len store.items c.as_mut_slice.result.now c.shift_arcs.new.store c.as_mut_slice.ensures.value c.as_mut_slice.ensures.len c.shift_arcs.ensures in
    ap (λ st. kept_states st [] slots) stored ∙ (states_shifted c.args.by store.items slots room ∙ ap (map (shifted_state c.args.by)) c.self.view_is)
