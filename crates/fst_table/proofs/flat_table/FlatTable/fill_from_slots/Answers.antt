use Rattle.std.proofs.Common.{◌≡◌, ◌≢◌, ◌<◌, ℕ, List, length, get_or, ap, sym, ◌∙◌, subst, arith}
use Rattle.std.proofs.lemmas.List.{get_or_default}
use Rattle.fst_table.specs.declared.flat_table.Slot.{Slot}
use Rattle.fst_table.specs.Placed.{placed_in}
use Rattle.fst_table.specs.Slots.{empty_slot, place_at}
use Rattle.fst_table.proofs.Slots.{HasFront, front-absent, front-all, front-empty, front-more}
use Rattle.fst_table.proofs.flat_table.FlatTable.fill_from_slots.Goals as goal
use Rattle.fst_table.proofs.flat_table.FlatTable.fill_from_slots.Goals.{then-slot+in_ok-put, else-slot}

-- the slot that the loop reads
read-slot : (read from : List Slot) (k : ℕ) → read ≡ from → k < length read → get_or read k (record { low = 0; high = 0; place = 0 }) ≡ get_or from k empty_slot
read-slot read from k same low = get_or_default read k (record { low = 0; high = 0; place = 0 }) empty_slot low ∙ ap (λ (xs : List Slot). get_or xs k empty_slot) same

pub put-requires-clause-absent : goal.put-requires-clause-absent
put-requires-clause-absent c =
    let from = c.args.from.now.slots.items in
    let k = c.loop-slot.slot-index in
    let read = read-slot c.deref-slot-items.result.now from k c.deref-slot-items.ensures.value c.loop-slot-test.true in
    let taken : place_at from k ≢ 4294967295 = λ e. c.if-slot.true (ap (λ (s : Slot). s.place) read ∙ e) in
    rw (c.number.ensures, read) (front-absent from (placed_in c.loop-slot.self) k c.args.from.now.probed taken c.loop-slot.invariant.front)

pub loop-slot-preserved : goal.loop-slot-preserved
loop-slot-preserved c =
    let from = c.args.from.now.slots.items in
    let k = c.loop-slot.slot-index in
    let read = read-slot c.deref-slot-items.result.now from k c.deref-slot-items.ensures.value c.loop-slot-test.true in
    let front = c.loop-slot.invariant.front in
    elim c.if-slot.branch [
      | then-slot+in_ok-put w ↦ (
          let taken : place_at from k ≢ 4294967295 = λ e. w.if-slot.true (ap (λ (s : Slot). s.place) read ∙ e) in
          let told = rw (w.number.ensures, read) at w.in_ok-put.ensures.put in
          rw w.self-is (record {
            front = front-more from (placed_in c.loop-slot.self) (placed_in w.put.new.self) k c.args.from.now.probed taken front told;
            len = w.put.ensures.len ∙ c.loop-slot.invariant.len;
          })
          )
      | else-slot w ↦ (
          let empty : place_at from k ≡ 4294967295 = sym (ap (λ (s : Slot). s.place) read) ∙ w.if-slot.false in
          rw w.self-is (record { front = front-empty from (placed_in c.loop-slot.self) k empty front; len = c.loop-slot.invariant.len })
          )
    ]

pub returns-clause-filled : goal.returns-clause-filled
returns-clause-filled c =
    let from = c.args.from.now.slots.items in
    let count : c.loop-slot.slot-index ≡ length from = omega arith in
    front-all from (placed_in c.loop-slot.self) c.args.from.now.probed (subst (HasFront from (placed_in c.loop-slot.self)) count c.loop-slot.invariant.front)
