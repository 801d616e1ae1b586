use Rattle.std.proofs.Common.{◌≡◌, length, rules, vec_len, arith}
use Rattle.fst_machine.proofs.Changes.{read_as}
use Rattle.fst_machine.proofs.Rooms.{ArePlaced-put, put_seen, seen-put, slot_there}
use Rattle.fst_machine.proofs.fst.placing.Placing.put.Goals as goal

pub index_mut-slot-requires : goal.index_mut-slot-requires
index_mut-slot-requires g c =
    let slots = c.self.inside.slots.items in
    let size : vec_len c.self.inside.slots ≡ length slots = search rules in
    omega (arith, size, slot_there c.self.inside.store.items c.self.inside.end slots c.args.state c.args.self.now c.self.invariant c.self.view_is c.requires)

pub overflow_add-slot : goal.overflow_add-slot
overflow_add-slot g c =
    let slots = c.self.inside.slots.items in
    let is = put_seen c.args.arc c.self.inside.store.items c.self.inside.end slots c.args.state _ c.args.self.now c.self.invariant c.self.view_is c.requires (read_as slots c.args.state _ _ c.slot.view_is c.index_mut-slot.ensures.value) in
    omega (arith, is.inside, c.self.invariant.inside, c.self.invariant.few)

pub index_mut-requires : goal.index_mut-requires
index_mut-requires g c =
    let slots = c.self.inside.slots.items in
    let is = put_seen c.args.arc c.self.inside.store.items c.self.inside.end slots c.args.state _ c.args.self.now c.self.invariant c.self.view_is c.requires (read_as slots c.args.state _ _ c.slot.view_is c.index_mut-slot.ensures.value) in
    let size : vec_len c.self.inside.store ≡ length c.self.inside.store.items = search rules in
    omega (arith, is.inside, c.self.invariant.inside, size)

pub invariant_of-self : goal.invariant_of-self
invariant_of-self g c =
    let slots = c.self.inside.slots.items in
    let store = c.self.inside.store.items in
    let is = put_seen c.args.arc store c.self.inside.end slots c.args.state _ c.args.self.now c.self.invariant c.self.view_is c.requires (read_as slots c.args.state _ _ c.slot.view_is c.index_mut-slot.ensures.value) in
    ArePlaced-put c.args.arc store c.self.inside.end slots c.args.state _ c.self.invariant is

pub returns : goal.returns
returns g c =
    let slots = c.self.inside.slots.items in
    let store = c.self.inside.store.items in
    let is = put_seen c.args.arc store c.self.inside.end slots c.args.state _ c.args.self.now c.self.invariant c.self.view_is c.requires (read_as slots c.args.state _ _ c.slot.view_is c.index_mut-slot.ensures.value) in
    seen-put c.args.arc store c.self.inside.end slots c.args.state _ c.args.self.now c.self.view_is is
