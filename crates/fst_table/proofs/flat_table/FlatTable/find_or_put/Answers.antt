use Rattle.std.proofs.Common.{◌≡◌, ◌≤◌, ◌∙◌, List, ap, length, arith}
use Rattle.std.proofs.lemmas.Result.{on_err_weaker}
use Rattle.fst_table.specs.declared.flat_table.Slot.{Slot}
use Rattle.fst_table.specs.Placed.{placed_in}
use Rattle.fst_table.specs.Slots.{probed_slot}
use Rattle.fst_table.proofs.Overflow.{found-overflow, past_told}
use Rattle.fst_table.proofs.flat_table.FlatTable.find_or_put.Goals as goal

pub invariant_of-self : goal.invariant_of-self
invariant_of-self c =
    let self = c.args.self.now in
    let xs = self.slots.items in
    let n = c.args.number in
    let at : c.probe-at.result ≡ probed_slot xs n = c.probe-at.ensures ∙ ap (λ (v : List Slot). probed_slot v n) c.deref.ensures.value in
    record {
      probed = self.probed;
      near = self.near;
      overflows = found-overflow c.find_or_insert.result xs self.overflow c.find_or_insert.new.map n c.args.place c.requires.place self.near (omega arith) c.find_or_insert.ensures.known c.find_or_insert.ensures.added c.find_or_insert.ensures.err self.overflows;
    }

pub returns-then-at-len-clause-absent : goal.returns-then-at-len-clause-absent
unfolding placed_in
returns-then-at-len-clause-absent c =
    let self = c.args.self.now in
    let xs = self.slots.items in
    let n = c.args.number in
    let at : c.probe-at.result ≡ probed_slot xs n = c.probe-at.ensures ∙ ap (λ (v : List Slot). probed_slot v n) c.deref.ensures.value in
    let past : length xs ≤ probed_slot xs n = omega arith in
    on_err_weaker c.find_or_insert.result (λ none. past_told xs n self.overflow self.near past ∙ none) c.find_or_insert.ensures.absent
