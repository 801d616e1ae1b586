use Rattle.std.proofs.Common.{◌≡◌, ◌<◌, ◌+◌, ◌∷◌, [], ◌++◌, length, map, ap, ◌∙◌, arith}
use Rattle.std.proofs.lemmas.List.Elements.{recursion_from_All}
use Rattle.fst_machine.specs.Extending.{shifted}
use Rattle.fst_machine.proofs.Extending.{shifted_slot, written_behind}
use Rattle.fst_machine.proofs.Keeping.{pushed}
use Rattle.fst_machine.proofs.fst.state_list.StateList.push_shifted.Goals as goal

pub invariant_of-self-2 : goal.invariant_of-self-2
invariant_of-self-2 g c =
    let store = c.self.inside.store.items in
    let slots = c.self.inside.slots.items in
    let arcs = c.args.arcs.now in
    let by = c.args.by in
    let behind : c.len-first.result ≡ length store = omega (arith, c.len-first.ensures) in
    let stored = written_behind by c.extend_from_slice.new.self.len c.len-first.result store arcs c.extend_from_slice.new.self.items c.as_mut_slice.result.now c.shift_behind.new.store behind (recursion_from_All (λ a. by + a.next < 4294967296) arcs c.requires.places) c.in_ok-extend_from_slice.ensures.items c.as_mut_slice.ensures.value c.as_mut_slice.ensures.len c.shift_behind.ensures in
    let put = shifted_slot by c.len-first.result store arcs slots c.reserve.new.self.items c.push_reserved.new.self.items c.args.last behind c.in_ok-reserve.ensures.items c.push_reserved.ensures.items in
    let p = pushed store (map (shifted by) arcs) _ slots c.push_reserved.new.self.items c.args.last c.self.invariant.1 c.self.invariant.0 stored put in
    (p.counted, p.parts)

pub returns-clause-ok : goal.returns-clause-ok
returns-clause-ok g c =
    let store = c.self.inside.store.items in
    let slots = c.self.inside.slots.items in
    let arcs = c.args.arcs.now in
    let by = c.args.by in
    let behind : c.len-first.result ≡ length store = omega (arith, c.len-first.ensures) in
    let stored = written_behind by c.extend_from_slice.new.self.len c.len-first.result store arcs c.extend_from_slice.new.self.items c.as_mut_slice.result.now c.shift_behind.new.store behind (recursion_from_All (λ a. by + a.next < 4294967296) arcs c.requires.places) c.in_ok-extend_from_slice.ensures.items c.as_mut_slice.ensures.value c.as_mut_slice.ensures.len c.shift_behind.ensures in
    let put = shifted_slot by c.len-first.result store arcs slots c.reserve.new.self.items c.push_reserved.new.self.items c.args.last behind c.in_ok-reserve.ensures.items c.push_reserved.ensures.items in
    let p = pushed store (map (shifted by) arcs) _ slots c.push_reserved.new.self.items c.args.last c.self.invariant.1 c.self.invariant.0 stored put in
    p.states ∙ ap (λ states. states ++ record { final = c.args.last; arcs = map (shifted by) arcs } ∷ []) c.self.view_is
