use Rattle.std.proofs.Common.{◌≡◌, ℕ, List, [], length, take, sym, ap, ◌∙◌, subst, eqb-true, arith}
use Rattle.std.proofs.lemmas.List.{nil_from_length}
use Rattle.std.specs.List.{All}
use Rattle.fst_machine.specs.Machine.{Arc, Machine, IsMachine, arc_total}
use Rattle.fst_machine.specs.Renumbered.{marked_states}
use Rattle.fst_machine.specs.SideBySide.{Follow}
use Rattle.fst_machine.specs.Store.{Slot, Apart, LiesIn, kept_states}
use Rattle.fst_machine.proofs.Keeping.{kept_length}
use Rattle.fst_machine.proofs.Retaining.{written_back}
use Rattle.fst_machine.proofs.fst.Fst.retain.Goals as goal

pub retain_states-requires-clause-follow : goal.retain_states-requires-clause-follow
retain_states-requires-clause-follow g c =
    subst (λ (slots : List (Slot g.row.W.Denot)). Follow 0 slots) (c.as_slice.ensures.value ∙ sym c.as_slice-2.ensures.value) (c.are_side_by_side.ensures c.if-not-are_side_by_side.false)

pub retain_states-requires-clause-marks : goal.retain_states-requires-clause-marks
retain_states-requires-clause-marks g c =
    let inner = c.self-inside.inside.0.0 in
    let states : kept_states inner.store.items inner.apart.items inner.slots.items ≡ c.args.self.states = ap (λ k. k.kept.states) c.self-inside.view_is ∙ ap (λ m. m.states) c.self.view_is in
    c.requires.marks ∙ (ap length (sym states) ∙ (kept_length inner.store.items inner.apart.items 0 inner.slots.items ∙ ap length (sym c.as_slice-2.ensures.value)))

pub invariant_of-result : goal.invariant_of-result
invariant_of-result g c = subst (λ (m : Machine g.row.W.Denot). IsMachine g.W.Weight.value m) (sym (ap (λ k. k.kept) c.self-inside.view_is)) c.self.invariant

pub invariant_of-result-2 : goal.invariant_of-result-2
invariant_of-result-2 g c =
    let r = (c.in_ok-end.ensures).retained in
    let store = c.self-inside.inside.0.0.store in
    let is : length c.as_mut_slice.result.now ≡ length store.items = ap length c.as_mut_slice.ensures.value in
    let cut : c.truncate.new.self.items ≡ take c.in_ok-end.end c.retain_states.new.store =
    c.truncate.ensures.items ∙ ap (take c.in_ok-end.end) (written_back store.items c.retain_states.new.store store.len (sym c.as_mut_slice.ensures.len ∙ is) ((c.in_ok-end.ensures).size ∙ is)) in
    subst (λ (store : List (Arc g.row.W.Denot ℕ)). (length store ≡ arc_total (kept_states store [] c.retain_states.new.kept.items)) × All (LiesIn (length store)) c.retain_states.new.kept.items) (sym cut) (r.counted, r.parts)

pub returns-clause-states : goal.returns-clause-states
returns-clause-states g c =
    let inner = c.self-inside.inside.0.0 in
    let zero_len = eqb-true _ 0 (sym c.is_empty.ensures ∙ c.if-not-is_empty.false) in
    let count : length inner.apart.items ≡ 0 = omega (arith, zero_len, inner.apart.ok) in
    let none : inner.apart.items ≡ [] = nil_from_length inner.apart.items count in
    let r = (c.in_ok-end.ensures).retained in
    let store = c.self-inside.inside.0.0.store in
    let is : length c.as_mut_slice.result.now ≡ length store.items = ap length c.as_mut_slice.ensures.value in
    let cut : c.truncate.new.self.items ≡ take c.in_ok-end.end c.retain_states.new.store =
    c.truncate.ensures.items ∙ ap (take c.in_ok-end.end) (written_back store.items c.retain_states.new.store store.len (sym c.as_mut_slice.ensures.len ∙ is) ((c.in_ok-end.ensures).size ∙ is)) in
    let states : kept_states inner.store.items inner.apart.items inner.slots.items ≡ c.args.self.states = ap (λ k. k.kept.states) c.self-inside.view_is ∙ ap (λ m. m.states) c.self.view_is in
    let given_states : kept_states c.as_mut_slice.result.now [] c.as_slice-2.result.now ≡ c.args.self.states =
    ap (λ (store : List (Arc g.row.W.Denot ℕ)). kept_states store [] c.as_slice-2.result.now) c.as_mut_slice.ensures.value
    ∙ (ap (λ (slots : List (Slot g.row.W.Denot)). kept_states inner.store.items [] slots) c.as_slice-2.ensures.value
    ∙ (ap (λ (apart : List (Apart g.row.W.Denot)). kept_states inner.store.items apart inner.slots.items) (sym none) ∙ states)) in
    ap (λ (store : List (Arc g.row.W.Denot ℕ)). kept_states store [] c.retain_states.new.kept.items) cut ∙ (r.states ∙ ap (marked_states c.args.marks.now c.args.numbers.now 0) given_states)
