use Rattle.std.proofs.Common.{◌≡◌, All, [], List, drop, map, subst, ap, ◌∙◌}
use Rattle.fst_machine.specs.Store.{Slot, kept_states}
use Rattle.fst_machine.specs.Forgetting.{BeginsFrom, moved_back}
use Rattle.fst_machine.proofs.Forgetting.{kept_behind, parts_behind}
use Rattle.fst_machine.proofs.fst.leaving.Leaving.forget.Given as given
use Rattle.fst_machine.proofs.fst.leaving.Leaving.forget.Goals as goal

-- no part of the states that are left begins before what is taken away
low : (g : given.Over) (c : goal.After-remove_front g) → All (BeginsFrom c.first_part-by.result) (drop c.args.count c.self.inside.slots.items)
low g c =
    let rest : c.as_slice.result.now ≡ drop c.args.count c.self.inside.slots.items = c.as_slice.ensures.value ∙ c.remove_slots.ensures in
    subst (λ (l : List (Slot g.row.W.Denot)). All (BeginsFrom c.first_part-by.result) l) rest c.first_part-by.ensures.low

pub invariant_of-self : goal.invariant_of-self
invariant_of-self g c =
    let by = c.first_part-by.result in
    let own = c.move_back.ensures ∙ ap (map (moved_back by)) c.remove_slots.ensures in
    rw (own, c.remove_front.ensures) (parts_behind c.self.inside.store.items by c.args.count c.self.inside.slots.items c.self.invariant (low g c))

pub returns : goal.returns
returns g c =
    let store = c.self.inside.store.items in
    let slots = c.self.inside.slots.items in
    let by = c.first_part-by.result in
    let own = c.move_back.ensures ∙ ap (map (moved_back by)) c.remove_slots.ensures in
    ap (λ st. kept_states st [] c.move_back.new.slots.items) c.remove_front.ensures
    ∙ ap (kept_states (drop by store) []) own
    ∙ kept_behind store by c.args.count slots (low g c)
    ∙ ap (drop c.args.count) c.self.view_is
