use Rattle.std.proofs.Common.{◌≡◌, ◌∷◌, [], ◌++◌, length, ap, ◌∙◌, arith}
use Rattle.fst_machine.proofs.Keeping.{Pushed, pushed, slot_behind}
use Rattle.fst_machine.proofs.fst.state_list.StateList.push.Given as given
use Rattle.fst_machine.proofs.fst.state_list.StateList.push.Goals as goal

-- the fields after the call, from what each of its steps says
after : (g : given.Over) (c : goal.After-push_reserved g) → Pushed c.self.inside.store.items c.args.arcs.now c.extend_from_slice.new.self.items c.self.inside.slots.items c.push_reserved.new.self.items c.args.last
after g c =
    let store = c.self.inside.store.items in
    let slots = c.self.inside.slots.items in
    let behind : c.len-first.result ≡ length store = omega (arith, c.len-first.ensures) in
    let put : c.push_reserved.new.self.items ≡ slots ++ slot_behind store c.args.last c.args.arcs.now ∷ [] =
    c.push_reserved.ensures.items ∙ ap (λ ss. ss ++ record { final = c.args.last; first = c.len-first.result; count = length c.args.arcs.now } ∷ []) c.in_ok-reserve.ensures.items
    ∙ ap (λ n. slots ++ record { final = c.args.last; first = n; count = length c.args.arcs.now } ∷ []) behind in
    pushed store c.args.arcs.now c.extend_from_slice.new.self.items slots c.push_reserved.new.self.items c.args.last c.self.invariant.1 c.self.invariant.0 c.in_ok-extend_from_slice.ensures.items put

pub invariant_of-self-2 : goal.invariant_of-self-2
invariant_of-self-2 g c =
    let p = after g c in
    (p.counted, p.parts)

pub returns-clause-ok : goal.returns-clause-ok
returns-clause-ok g c = (after g c).states ∙ ap (λ states. states ++ record { final = c.args.last; arcs = c.args.arcs.now } ∷ []) c.self.view_is
