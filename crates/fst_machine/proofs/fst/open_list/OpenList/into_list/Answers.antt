use Rattle.std.proofs.Common.{ap, ◌∙◌}
use Rattle.fst_machine.specs.OpenStates.{OpenStates}
use Rattle.fst_machine.proofs.Opening.{all_closed}
use Rattle.fst_machine.proofs.fst.open_list.OpenList.into_list.Goals as goal

pub invariant_of-result : goal.invariant_of-result
invariant_of-result g c =
    let own = c.self.inside in
    let none = ap (λ (o : OpenStates g.row.W.Denot). o.arcs) c.self.view_is ∙ c.requires in
    let p = all_closed own.slots.items own.store.items own.first c.self.invariant none in
    (p.counted, p.parts)

pub returns : goal.returns
returns g c =
    let own = c.self.inside in
    let none = ap (λ (o : OpenStates g.row.W.Denot). o.arcs) c.self.view_is ∙ c.requires in
    let p = all_closed own.slots.items own.store.items own.first c.self.invariant none in
    p.gives ∙ ap (λ (o : OpenStates g.row.W.Denot). o.states) c.self.view_is
