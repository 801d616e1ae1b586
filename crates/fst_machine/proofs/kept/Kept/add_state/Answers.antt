use Rattle.std.proofs.Common.{ap, arith}
use Rattle.fst_machine.proofs.Keeping.{IsKept-push, kept_states-push}
use Rattle.fst_machine.proofs.kept.Kept.add_state.Goals as goal

pub invariant_of-self-2 : goal.invariant_of-self-2
invariant_of-self-2 g c =
    let slots = c.self.inside.slots.items in
    rw (c.in-Ok.ensures.items, c.new.ensures) (IsKept-push slots c.self.inside.store.items c.self.inside.apart.items c.self.inside.total c.args.last c.self.invariant (omega (arith, c.len-number.ensures)))

pub returns-clause-ok : goal.returns-clause-ok
returns-clause-ok g c =
    rw (← c.self.view_is) (rw (c.in-Ok.ensures.items, c.new.ensures) (ap (λ ss. record { start = c.self.inside.start; states = ss })
    (kept_states-push c.self.inside.store.items c.self.inside.apart.items c.self.inside.slots.items c.args.last)))
