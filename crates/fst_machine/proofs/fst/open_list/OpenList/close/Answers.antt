use Rattle.std.proofs.Common.{◌≡◌, ◌-◌, ◌∷◌, [], ◌++◌, length, drop, sym, subst, ap, ◌∙◌, arith}
use Rattle.std.proofs.lemmas.List.{length-drop}
use Rattle.fst_machine.specs.OpenStates.{IsOpen, OpenStates, opened}
use Rattle.fst_machine.proofs.Opening.{OpenClosed, open_closed, open_slot}
use Rattle.fst_machine.proofs.fst.open_list.OpenList.close.Given as given
use Rattle.fst_machine.proofs.fst.open_list.OpenList.close.Goals as goal

-- the open state ends where the store does
behind : (g : given.Over) (c : goal.After-self-1 g) → c.len-behind.result ≡ length c.self.inside.store.items
behind g c = omega (arith, c.len-behind.ensures)

-- the fields after the call, from what each of its steps says
after : (g : given.Over) (c : goal.After-self-1 g) → OpenClosed c.self.inside.slots.items c.push.new.self.items c.self.inside.store.items c.self.inside.first c.args.last
after g c =
    let own = c.self.inside in
    let count : c.len-behind.result - own.first ≡ length (drop own.first own.store.items) = omega (arith, behind g c, length-drop own.first own.store.items) in
    let put : c.push.new.self.items ≡ own.slots.items ++ open_slot own.store.items own.first c.args.last ∷ [] =
    c.in_ok-push.ensures.items ∙ ap (λ n. own.slots.items ++ record { final = c.args.last; first = own.first; count = n } ∷ []) count in
    open_closed own.slots.items c.push.new.self.items own.store.items own.first c.args.last c.self.invariant put

pub invariant_of-self-2 : goal.invariant_of-self-2
invariant_of-self-2 g c = subst (λ n. IsOpen c.push.new.self.items c.self.inside.store.items n) (sym (behind g c)) (after g c).is

pub returns-clause-ok : goal.returns-clause-ok
returns-clause-ok g c =
    ap (opened c.push.new.self.items c.self.inside.store.items) (behind g c) ∙ (after g c).gives
    ∙ ap (λ (o : OpenStates g.row.W.Denot). record { states = o.states ++ record { final = c.args.last; arcs = o.arcs } ∷ []; arcs = [] }) c.self.view_is
