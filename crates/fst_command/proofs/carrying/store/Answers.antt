use Rattle.std.proofs.Common.{◌≡◌, ℕ, List, length, ap, ◌∙◌, subst}
use Rattle.fst_words.specs.Plans.{outputs_of}
use Rattle.fst_command.specs.Views.{bytes_seen}
use Rattle.fst_command.specs.Steps.{IsReady, WritesBoth, WritesOutput}
use Rattle.fst_command.specs.declared.product.Bytes.{Bytes}
use Rattle.fst_command.proofs.Stored.{only_one, only_two}
use Rattle.fst_command.proofs.Writing.{Works-both, Works-written}
use Rattle.fst_command.proofs.carrying.store.Goals as goal

pub returns-in-One : goal.returns-in-One
returns-in-One g c old status ready =
    let plan = c.args.plan.now in
    let mid = g.D.Desk.seen c.args.desk.now in
    let new = g.D.Desk.seen c.write_output.new.desk in
    let out = c.output.result.now in
    let size : length (outputs_of plan) ≡ 1 = c.requires ∙ ap (λ (b : Bytes). length (bytes_seen b)) c.in-One.is in
    Works-written plan out c.in-One.bytes.items status old mid new c.write_output.result (only_one (outputs_of plan) out size c.output.ensures)
    (subst (λ (b : Bytes). IsReady plan (record { status = status; bytes = bytes_seen b }) old mid) c.in-One.is ready)
    (subst (λ (n : List ℕ). WritesOutput n c.in-One.bytes.items mid new c.write_output.result) c.text.ensures
    (subst (λ (b : List ℕ). WritesOutput c.text.result.now b mid new c.write_output.result) c.as_slice.ensures.value c.write_output.ensures))

pub returns-in-Two : goal.returns-in-Two
returns-in-Two g c old status ready =
    let plan = c.args.plan.now in
    let mid = g.D.Desk.seen c.args.desk.now in
    let new = g.D.Desk.seen c.write_both.new.desk in
    let first = c.output-in-Two.result.now in
    let second = c.output-in-Two-2.result.now in
    let bytes = c.in-Two.first.items in
    let more = c.in-Two.second.items in
    let r = c.write_both.result in
    let size : length (outputs_of plan) ≡ 2 = c.requires ∙ ap (λ (b : Bytes). length (bytes_seen b)) c.in-Two.is in
    Works-both plan first bytes second more status old mid new r (only_two (outputs_of plan) first second size c.output-in-Two.ensures c.output-in-Two-2.ensures)
    (subst (λ (b : Bytes). IsReady plan (record { status = status; bytes = bytes_seen b }) old mid) c.in-Two.is ready)
    (subst (λ (n : List ℕ). WritesBoth n bytes second more mid new r) c.text-in-Two.ensures
    (subst (λ (n : List ℕ). WritesBoth c.text-in-Two.result.now bytes n more mid new r) c.text-in-Two-2.ensures
    (subst (λ (b : List ℕ). WritesBoth c.text-in-Two.result.now b c.text-in-Two-2.result.now more mid new r) c.as_slice-in-Two.ensures.value
    (subst (λ (b : List ℕ). WritesBoth c.text-in-Two.result.now c.as_slice-in-Two.result.now c.text-in-Two-2.result.now b mid new r) c.as_slice-in-Two-2.ensures.value c.write_both.ensures))))
