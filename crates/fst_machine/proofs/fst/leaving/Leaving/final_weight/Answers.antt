use Rattle.std.proofs.Common.{◌≡◌, [], length, sym, ap, ◌∙◌, arith}
use Rattle.std.specs.Option.{option_map}
use Rattle.fst_machine.proofs.Changes.{read_as}
use Rattle.fst_machine.proofs.Keeping.{kept_get, kept_length}
use Rattle.fst_machine.proofs.fst.leaving.Leaving.final_weight.Goals as goal

pub returns : goal.returns
returns g c =
    let slots = c.self.inside.slots.items in
    let store = c.self.inside.store.items in
    let same : length slots ≡ length c.args.self.now = sym (kept_length store [] 0 slots) ∙ ap length c.self.view_is in
    rw (← c.self.view_is) (ap (option_map (λ t. t.final)) (kept_get store [] slots c.args.place _ (omega (arith, c.requires)) (read_as slots c.args.place _ _ c.slot.view_is c.index-slot.ensures)))
