use Rattle.std.proofs.Common.{◌≡◌, ℕ, List, [], Some, length, sym, ap, ◌∙◌, eqb-true, arith}
use Rattle.std.proofs.lemmas.List.{nil_from_length}
use Rattle.fst_machine.specs.ArcsChanged.{with_new_arcs}
use Rattle.fst_machine.specs.Machine.{Arc, State, Machine, changed}
use Rattle.fst_machine.specs.Store.{Slot}
use Rattle.fst_machine.proofs.ArcsReplaced.{none_replaced, put_there, room_there, some_there, state_low}
use Rattle.fst_machine.proofs.Keeping.{kept_length}
use Rattle.fst_machine.proofs.fst.rewriting.Rewriting.replace_arcs.Goals as goal

pub returns-then-is_empty : goal.returns-then-is_empty
returns-then-is_empty g c =
    let count : length c.args.arcs.now ≡ 0 = eqb-true _ 0 (sym c.is_empty.ensures ∙ c.if-is_empty.true) in
    let none : c.args.arcs.now ≡ [] = nil_from_length c.args.arcs.now count in
    let size = c.requires.size ∙ ap Some count in
    ap (λ (ss : List (State g.row.W.Denot)). record { start = c.args.self.now.start; states = ss }) (none_replaced c.args.self.now.states c.args.state size ∙ ap (λ (ys : List (Arc g.row.W.Denot ℕ)). changed (with_new_arcs ys) c.args.self.now.states c.args.state) (sym none))

pub index-slot-requires : goal.index-slot-requires
index-slot-requires g c =
    let slots = c.self.inside.slots.items in
    let same : length slots ≡ length c.args.self.now.states = sym (kept_length c.self.inside.store.items [] 0 slots) ∙ ap (λ (m : Machine g.row.W.Denot). length m.states) c.self.view_is in
    omega (arith, same, state_low c.args.self.now.states c.args.state (length c.args.arcs.now) c.requires.size)

pub write_arcs-requires : goal.write_arcs-requires
write_arcs-requires g c =
    let inner = c.self.inside in
    let s : Slot g.row.W.Denot = record { final = c.slot.inside.last; first = c.slot.inside.first; count = c.slot.inside.count } in
    let some = some_there c.args.arcs.now _ c.is_empty.ensures c.if-is_empty.false in
    let room = room_there g.W.Weight.value inner.start inner.slots.items inner.total inner.store.items c.args.arcs.now c.args.state c.args.self.now c.self.invariant.0 c.self.invariant.1 c.self.view_is c.requires.size some s c.index-slot.result.now c.slot.view_is c.index-slot.ensures in
    omega (arith, ap length c.as_mut_slice.ensures.value, room)

pub invariant_of-self : goal.invariant_of-self
invariant_of-self g c =
    let inner = c.self.inside in
    let s : Slot g.row.W.Denot = record { final = c.slot.inside.last; first = c.slot.inside.first; count = c.slot.inside.count } in
    let some = some_there c.args.arcs.now _ c.is_empty.ensures c.if-is_empty.false in
    let after = put_there g.W.Weight.value inner.start inner.slots.items inner.total inner.store.items c.args.arcs.now c.args.state c.args.self.now c.self.invariant.0 c.self.invariant.1 c.self.view_is c.requires.size some s c.index-slot.result.now c.slot.view_is c.index-slot.ensures c.self.invariant.2 c.requires.arcs c.as_mut_slice.result.now c.write_arcs.new.store inner.store.len c.as_mut_slice.ensures.value c.write_arcs.ensures c.as_mut_slice.ensures.len in
    (c.self.invariant.0, after.kept, after.machine)

pub returns : goal.returns
returns g c =
    let inner = c.self.inside in
    let s : Slot g.row.W.Denot = record { final = c.slot.inside.last; first = c.slot.inside.first; count = c.slot.inside.count } in
    let some = some_there c.args.arcs.now _ c.is_empty.ensures c.if-is_empty.false in
    let after = put_there g.W.Weight.value inner.start inner.slots.items inner.total inner.store.items c.args.arcs.now c.args.state c.args.self.now c.self.invariant.0 c.self.invariant.1 c.self.view_is c.requires.size some s c.index-slot.result.now c.slot.view_is c.index-slot.ensures c.self.invariant.2 c.requires.arcs c.as_mut_slice.result.now c.write_arcs.new.store inner.store.len c.as_mut_slice.ensures.value c.write_arcs.ensures c.as_mut_slice.ensures.len in
    ap (λ (ss : List (State g.row.W.Denot)). record { start = inner.start; states = ss }) after.states
    ∙ ap (λ (m : Machine g.row.W.Denot). record { start = m.start; states = changed (with_new_arcs c.args.arcs.now) m.states c.args.state }) c.self.view_is
