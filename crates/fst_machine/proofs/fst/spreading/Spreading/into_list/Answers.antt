use Rattle.std.proofs.Common.{ap, ◌∙◌}
use Rattle.fst_machine.proofs.PutNext.{listed}
use Rattle.fst_machine.proofs.fst.spreading.Spreading.into_list.Goals as goal

pub invariant_of-result : goal.invariant_of-result
invariant_of-result g c =
    let inner = c.self.inside in
    let all = listed inner.slots.items inner.store.items c.truncate.new.self.items inner.state inner.end inner.back inner.place c.self.invariant (ap (λ l. l.left) c.self.view_is ∙ c.requires) c.truncate.ensures.items in
    (all.0, all.1)

pub returns : goal.returns
returns g c =
    let inner = c.self.inside in
    let all = listed inner.slots.items inner.store.items c.truncate.new.self.items inner.state inner.end inner.back inner.place c.self.invariant (ap (λ l. l.left) c.self.view_is ∙ c.requires) c.truncate.ensures.items in
    all.2 ∙ ap (λ l. l.done) c.self.view_is
