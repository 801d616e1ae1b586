use Rattle.std.proofs.Common.{◌+◌, length, ap, ◌∙◌, arith}
use Rattle.fst_machine.proofs.Rooms.{ArePlaced-push, placed_of, seen-push}
use Rattle.fst_machine.proofs.fst.placing.Placing.push.Goals as goal

pub invariant_of-self-2 : goal.invariant_of-self-2
invariant_of-self-2 g c =
    let slots = c.self.inside.slots.items in
    let end = c.self.inside.end in
    let size = length c.self.inside.store.items in
    let before = ap (λ p. p.left) c.self.view_is in
    rw c.in_ok-push.ensures.items (ArePlaced-push slots c.args.last end c.args.room size c.self.invariant (omega (arith, before, c.requires, c.self.invariant.inside)))

pub returns-clause-ok : goal.returns-clause-ok
returns-clause-ok g c =
    let slots = c.self.inside.slots.items in
    let end = c.self.inside.end in
    let store = c.self.inside.store.items in
    ap (λ ss. placed_of ss store (end + c.args.room)) c.in_ok-push.ensures.items ∙ seen-push store end c.args.room slots c.args.last c.args.self.now c.self.view_is
