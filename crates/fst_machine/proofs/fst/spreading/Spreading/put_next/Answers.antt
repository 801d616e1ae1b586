use Rattle.std.proofs.Common.{◌≡◌, ◌<◌, ◌≤◌, ◌+◌, ◌-◌, ◌∷◌, ◌++◌, [], List, ℕ, length, map, get_or, slice_get, drop, refl, sym, ap, ◌∙◌, arith}
use Rattle.fst_machine.specs.Extending.{shifted}
use Rattle.fst_machine.specs.Machine.{Arc, State}
use Rattle.fst_machine.specs.Store.{Slot}
use Rattle.fst_machine.proofs.Changes.{read_as}
use Rattle.fst_machine.proofs.PutNext.{first_arcs, first_left, left_length, part_inside, put_back, room_behind, state_arcs}
use Rattle.fst_machine.proofs.fst.spreading.Spreading.put_next.Goals as goal

pub put_arcs-requires-clause-inside : goal.put_arcs-requires-clause-inside
put_arcs-requires-clause-inside g c some =
    let inner = c.self.inside in
    let slots = inner.slots.items in
    let store = inner.store.items in
    let s : Slot g.row.W.Denot = record { final = c.slot.inside.last; first = c.slot.inside.first; count = c.slot.inside.count } in
    let within : inner.state < length slots = omega (arith, c.requires.some, left_length slots (drop inner.back store) inner.state c.args.self.now.left (ap (λ l. l.left) c.self.view_is)) in
    let read : get_or slots inner.state s ≡ s = sym (read_as slots inner.state s _ c.slot.view_is c.index-slot.ensures) in
    omega (arith, ap length c.as_mut_slice.ensures.value, part_inside slots store inner.state inner.end inner.back inner.place s s within read c.self.invariant some)

pub put_arcs-requires-clause-room : goal.put_arcs-requires-clause-room
put_arcs-requires-clause-room g c =
    let inner = c.self.inside in
    let slots = inner.slots.items in
    let store = inner.store.items in
    let s : Slot g.row.W.Denot = record { final = c.slot.inside.last; first = c.slot.inside.first; count = c.slot.inside.count } in
    let within : inner.state < length slots = omega (arith, c.requires.some, left_length slots (drop inner.back store) inner.state c.args.self.now.left (ap (λ l. l.left) c.self.view_is)) in
    let read : get_or slots inner.state s ≡ s = sym (read_as slots inner.state s _ c.slot.view_is c.index-slot.ensures) in
    let room : length c.args.more.now ≤ inner.back + inner.place - inner.end = omega (arith, c.requires.room, ap (λ l. l.room) c.self.view_is) in
    omega (arith, ap length c.as_mut_slice.ensures.value, room_behind slots store inner.state inner.end inner.back inner.place s s within read c.self.invariant (length c.args.more.now) room)

pub overflow_cast-all : goal.overflow_cast-all
overflow_cast-all g c =
    let inner = c.self.inside in
    let slots = inner.slots.items in
    let store = inner.store.items in
    let s : Slot g.row.W.Denot = record { final = c.slot.inside.last; first = c.slot.inside.first; count = c.slot.inside.count } in
    let within : inner.state < length slots = omega (arith, c.requires.some, left_length slots (drop inner.back store) inner.state c.args.self.now.left (ap (λ l. l.left) c.self.view_is)) in
    let read : get_or slots inner.state s ≡ s = sym (read_as slots inner.state s _ c.slot.view_is c.index-slot.ensures) in
    let room : length c.args.more.now ≤ inner.back + inner.place - inner.end = omega (arith, c.requires.room, ap (λ l. l.room) c.self.view_is) in
    omega (arith, c.self.invariant.few_arcs, room_behind slots store inner.state inner.end inner.back inner.place s s within read c.self.invariant (length c.args.more.now) room)

pub invariant_of-self : goal.invariant_of-self
invariant_of-self g c =
    let inner = c.self.inside in
    let slots = inner.slots.items in
    let store = inner.store.items in
    let s : Slot g.row.W.Denot = record { final = c.slot.inside.last; first = c.slot.inside.first; count = c.slot.inside.count } in
    let within : inner.state < length slots = omega (arith, c.requires.some, left_length slots (drop inner.back store) inner.state c.args.self.now.left (ap (λ l. l.left) c.self.view_is)) in
    let read : get_or slots inner.state s ≡ s = sym (read_as slots inner.state s _ c.slot.view_is c.index-slot.ensures) in
    let room : length c.args.more.now ≤ inner.back + inner.place - inner.end = omega (arith, c.requires.room, ap (λ l. l.room) c.self.view_is) in
    let places = c.requires.places _ (ap (λ l. slice_get l.left 0) (sym c.self.view_is) ∙ first_left slots store inner.state inner.end inner.back inner.place s s within read c.self.invariant) in
    let e = c.put_arcs.ensures in
    let after = put_back slots store inner.state inner.end inner.back inner.place s s within read c.self.invariant _ c.as_mut_slice.result.now c.put_arcs.new.store inner.store.len c.args.last c.args.by c.args.more.now (inner.end + (s.count + length c.args.more.now)) c.place_behind-self-inside.result c.as_mut_slice.ensures.value c.as_mut_slice.ensures.len (omega arith) c.place_behind-self-inside.ensures room places e.front e.behind e.size refl in
    after.invariant

pub returns-clause-done : goal.returns-clause-done
returns-clause-done g c t found =
    let inner = c.self.inside in
    let slots = inner.slots.items in
    let store = inner.store.items in
    let s : Slot g.row.W.Denot = record { final = c.slot.inside.last; first = c.slot.inside.first; count = c.slot.inside.count } in
    let within : inner.state < length slots = omega (arith, c.requires.some, left_length slots (drop inner.back store) inner.state c.args.self.now.left (ap (λ l. l.left) c.self.view_is)) in
    let read : get_or slots inner.state s ≡ s = sym (read_as slots inner.state s _ c.slot.view_is c.index-slot.ensures) in
    let room : length c.args.more.now ≤ inner.back + inner.place - inner.end = omega (arith, c.requires.room, ap (λ l. l.room) c.self.view_is) in
    let places = c.requires.places _ (ap (λ l. slice_get l.left 0) (sym c.self.view_is) ∙ first_left slots store inner.state inner.end inner.back inner.place s s within read c.self.invariant) in
    let e = c.put_arcs.ensures in
    let after = put_back slots store inner.state inner.end inner.back inner.place s s within read c.self.invariant _ c.as_mut_slice.result.now c.put_arcs.new.store inner.store.len c.args.last c.args.by c.args.more.now (inner.end + (s.count + length c.args.more.now)) c.place_behind-self-inside.result c.as_mut_slice.ensures.value c.as_mut_slice.ensures.len (omega arith) c.place_behind-self-inside.ensures room places e.front e.behind e.size refl in
    after.done
    ∙ (ap (λ (states : List (State g.row.W.Denot)). states ++ record { final = c.args.last; arcs = map (shifted c.args.by) (state_arcs slots store inner.state inner.end inner.back inner.place s s within read c.self.invariant) ++ c.args.more.now } ∷ []) (ap (λ l. l.done) c.self.view_is)
    ∙ ap (λ (arcs : List (Arc g.row.W.Denot ℕ)). c.args.self.now.done ++ record { final = c.args.last; arcs = map (shifted c.args.by) arcs ++ c.args.more.now } ∷ []) (first_arcs slots store inner.state inner.end inner.back inner.place s s within read c.self.invariant c.args.self.now.left t (ap (λ l. l.left) c.self.view_is) found))

pub returns-clause-left : goal.returns-clause-left
returns-clause-left g c =
    let inner = c.self.inside in
    let slots = inner.slots.items in
    let store = inner.store.items in
    let s : Slot g.row.W.Denot = record { final = c.slot.inside.last; first = c.slot.inside.first; count = c.slot.inside.count } in
    let within : inner.state < length slots = omega (arith, c.requires.some, left_length slots (drop inner.back store) inner.state c.args.self.now.left (ap (λ l. l.left) c.self.view_is)) in
    let read : get_or slots inner.state s ≡ s = sym (read_as slots inner.state s _ c.slot.view_is c.index-slot.ensures) in
    let room : length c.args.more.now ≤ inner.back + inner.place - inner.end = omega (arith, c.requires.room, ap (λ l. l.room) c.self.view_is) in
    let places = c.requires.places _ (ap (λ l. slice_get l.left 0) (sym c.self.view_is) ∙ first_left slots store inner.state inner.end inner.back inner.place s s within read c.self.invariant) in
    let e = c.put_arcs.ensures in
    let after = put_back slots store inner.state inner.end inner.back inner.place s s within read c.self.invariant _ c.as_mut_slice.result.now c.put_arcs.new.store inner.store.len c.args.last c.args.by c.args.more.now (inner.end + (s.count + length c.args.more.now)) c.place_behind-self-inside.result c.as_mut_slice.ensures.value c.as_mut_slice.ensures.len (omega arith) c.place_behind-self-inside.ensures room places e.front e.behind e.size refl in
    after.left ∙ ap (λ l. drop 1 l.left) c.self.view_is
