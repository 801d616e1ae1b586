use Rattle.std.proofs.Common.{◌≡◌, ◌∷◌, ◌++◌, length, ap, ◌∙◌, arith}
use Rattle.fst_machine.proofs.Extending.{IsFronted, fronted}
use Rattle.fst_machine.proofs.fst.state_list.StateList.push_front.Given as given
use Rattle.fst_machine.proofs.fst.state_list.StateList.push_front.Goals.{In_ok-extend_from_slice}
use Rattle.fst_machine.proofs.fst.state_list.StateList.push_front.Goals as goal

-- the fields after the call, from what each of its steps says
after : (g : given.Over) (c : goal.In_ok-extend_from_slice g) → IsFronted c.self.inside.store.items c.args.arcs.now c.extend_from_slice.new.self.items c.self.inside.slots.items c.insert.new.self.items c.args.last
after g c =
    let store = c.self.inside.store.items in
    let behind : c.len-first.result ≡ length store = omega (arith, c.len-first.ensures) in
    fronted store c.args.arcs.now c.extend_from_slice.new.self.items c.self.inside.slots.items c.insert.new.self.items c.args.last c.len-first.result behind c.self.invariant
    (c.in_ok-extend_from_slice.ensures.items ∙ ap (λ st. st ++ c.args.arcs.now) c.in_ok-reserve_exact.ensures.items)
    (c.in_ok-insert.ensures.items ∙ ap (λ ss. record { final = c.args.last; first = c.len-first.result; count = length c.args.arcs.now } ∷ ss) c.in_ok-reserve_exact-2.ensures.items)

pub invariant_of-self-2 : goal.invariant_of-self-2
invariant_of-self-2 g c =
    let p = after g c in
    (p.counted, p.parts)

pub returns-clause-ok : goal.returns-clause-ok
returns-clause-ok g c = (after g c).states ∙ ap (λ states. record { final = c.args.last; arcs = c.args.arcs.now } ∷ states) c.self.view_is
