use Rattle.std.proofs.Common.{◌≡◌, ◌∙◌, List, ap, arith}
use Rattle.fst_table.specs.declared.flat_table.Slot.{Slot}
use Rattle.fst_table.specs.Slots.{probed_slot}
use Rattle.fst_table.proofs.Overflow.{insert-overflow}
use Rattle.fst_table.proofs.flat_table.FlatTable.put.Goals as goal

pub invariant_of-self : goal.invariant_of-self
invariant_of-self c =
    let self = c.args.self.now in
    let xs = self.slots.items in
    let n = c.args.number in
    let at : c.probe-at.result ≡ probed_slot xs n = c.probe-at.ensures ∙ ap (λ (v : List Slot). probed_slot v n) c.deref.ensures.value in
    record {
      probed = self.probed;
      near = self.near;
      overflows = insert-overflow c.insert.result xs self.overflow c.insert.new.self n c.args.place c.requires.place self.near (omega arith) c.insert.ensures.updates c.insert.ensures.err self.overflows;
    }
