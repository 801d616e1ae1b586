-- The first state leaves a heap.
use Rattle.std.proofs.Common.{◌≡◌, ◌≢◌, ◌⊎◌, ◌↔◌, inl, inr, ℕ, ◌+◌, ◌<◌, Some, List, length, take, set, get_or, sym, ap, ◌∙◌, subst, arith}
use Rattle.std.proofs.lemmas.Bool.{cases_eq}
use Rattle.std.proofs.lemmas.List.{get_or-set_same, get_or-set_other, length-set, length-take-le, get_or-take}
use Rattle.fst_semiring.specs.declared.key.Key.{Key}
use Rattle.fst_semiring.specs.Keys.{key_cmp}
use Rattle.fst_machine.specs.BreadthFirst.{Has}
use Rattle.fst_queue.specs.Members.{Takes}
use Rattle.fst_queue.specs.Heap.{key_at, key_in, Heaped, IsBest, Linked, NoWorse, SamePresent}
use Rattle.fst_queue.specs.HeapOrder.{Falling, IsBelow}
use Rattle.fst_queue.proofs.HeapMembers.{Has_place, place_Has, same_members}
use Rattle.fst_queue.proofs.HeapKeys.{along, key_total}
use Rattle.fst_queue.proofs.HeapOrder.{top_best}

module _ (heap places : List ℕ) (keys : List Key) (heaped : Heaped heap places keys) (state : ℕ) (is_state : get_or heap 0 0 ≡ state) (some : 0 < length heap) where
  -- no key betters that of the first state
  pub first_best : IsBest keys heap state
  first_best q h =
      let at = Has_place heap q h in
      along _ _ _ _ (ap (key_at keys) (sym is_state)) (ap (key_at keys) (sym at.2)) (top_best key_cmp key_total (length heap) (key_in keys heap) heaped.ordered (length heap) at.0 at.1 at.1)

  module _ (last : ℕ) (is_last : last + 1 ≡ length heap) (swapped moved left : List ℕ) (linked : Linked swapped moved (length keys)) (same : SamePresent places moved) (size : length swapped ≡ length heap) (at_last : get_or swapped last 0 ≡ state) (others : (i : ℕ) → (i ≡ 0 → ⊥) → (i ≡ last → ⊥) → get_or swapped i 0 ≡ get_or heap i 0) (popped : left ≡ take last swapped) where
    long : length left ≡ last
    long = ap length popped ∙ length-take-le last swapped (omega (arith, size, is_last))

    at_left : (i : ℕ) → i < last → get_or left i 0 ≡ get_or swapped i 0
    at_left i low = ap (λ (xs : List ℕ). get_or xs i 0) popped ∙ get_or-take last swapped i 0 low

    placed_last : get_or moved state 0 ≡ last + 1
    placed_last = ap (λ (q : ℕ). get_or moved q 0) (sym at_last) ∙ linked.placed last (omega (arith, size, is_last))

    not_state : (i : ℕ) → i < last → get_or swapped i 0 ≢ state
    not_state i low e = let wrong : i + 1 ≡ last + 1 = sym (linked.placed i (omega (arith, size, is_last))) ∙ ap (λ (q : ℕ). get_or moved q 0) e ∙ placed_last in omega arith

    state_low : state < length moved
    state_low = subst (λ (q : ℕ). q < length moved) at_last (linked.low last (omega (arith, size, is_last))).0

    pub left_linked : Linked left (set moved state 0) (length keys)
    left_linked = record { low = λ i low. by_low i (omega (arith, long, low)); placed = λ i low. by_placed i (omega (arith, long, low)); back = λ q i e. by_back q i (cases_eq q state) e }
      where
        by_low : (i : ℕ) → i < last → (get_or left i 0 < length (set moved state 0)) × (get_or left i 0 < length keys)
        by_low i low =
            let was = linked.low i (omega (arith, size, is_last)) in
            let it = at_left i low in
            (omega (arith, it, was.0, length-set moved state 0), omega (arith, it, was.1))

        by_placed : (i : ℕ) → i < last → get_or (set moved state 0) (get_or left i 0) 0 ≡ i + 1
        by_placed i low = ap (λ (q : ℕ). get_or (set moved state 0) q 0) (at_left i low) ∙ get_or-set_other moved state (get_or swapped i 0) 0 0 (not_state i low) ∙ linked.placed i (omega (arith, size, is_last))

        by_back : (q i : ℕ) → (q ≡ state) ⊎ (q ≡ state → ⊥) → get_or (set moved state 0) q 0 ≡ i + 1 → (i < length left) × (get_or left i 0 ≡ q)
        by_back q i (inl e) h = absurd (let wrong : 0 ≡ i + 1 = sym (get_or-set_same moved state 0 0 state_low) ∙ ap (λ (j : ℕ). get_or (set moved state 0) j 0) (sym e) ∙ h in omega arith)
        by_back q i (inr other) h =
            let was = linked.back q i (sym (get_or-set_other moved state q 0 0 other) ∙ h) in
            let not_last : i ≢ last = λ e. other (sym was.1 ∙ ap (λ (j : ℕ). get_or swapped j 0) e ∙ at_last) in
            let low : i < last = omega (arith, was.0, size, is_last) in
            (omega (arith, long), at_left i low ∙ was.1)

    pub left_falling : Falling key_cmp (length left) (key_in keys left) 0
    left_falling = record { ordered = λ p c below low other. by p c below (omega (arith, long, low)) other; across = λ p c up below low. absurd (omega arith) }
      where
        kept : (i : ℕ) → i < last → i ≢ 0 → key_in keys left i ≡ key_in keys heap i
        kept i low other = ap (key_at keys) (at_left i low ∙ others i other (λ h. omega arith))

        by : (p c : ℕ) → IsBelow p c → c < last → p ≢ 0 → NoWorse (key_in keys left p) (key_in keys left c)
        by p c below low other = along _ _ _ _ (kept p (omega arith) other) (kept c low (λ h. omega arith)) (heaped.ordered p c below (omega (arith, is_last)))

    -- the heap without its only state is in order
    pub left_heaped : last ≡ 0 → Heaped left (set moved state 0) keys
    left_heaped none = record { linked = left_linked; ordered = λ p c below low. absurd (omega (arith, long, low, none)) }

    left_Has : (q : ℕ) → Has left q ↔ (Has heap q × (q ≢ state))
    left_Has q = (forth, λ h. back h.0 h.1)
      where
        swapped_Has : Has swapped q ↔ Has heap q
        swapped_Has = same_members heap places swapped moved (length keys) (length keys) heaped.linked linked same q

        forth : Has left q → Has heap q × (q ≢ state)
        forth h =
            let at = Has_place left q h in
            let low : at.0 < last = omega (arith, long, at.1) in
            let is : get_or swapped at.0 0 ≡ q = sym (at_left at.0 low) ∙ at.2 in
            (swapped_Has.0 (place_Has swapped at.0 q (omega (arith, size, is_last, low)) is), λ e. not_state at.0 low (is ∙ e))

        back : Has heap q → q ≢ state → Has left q
        back h other =
            let at = Has_place swapped q (swapped_Has.1 h) in
            let not_last : at.0 ≢ last = λ e. other (sym at.2 ∙ ap (λ (j : ℕ). get_or swapped j 0) e ∙ at_last) in
            let low : at.0 < last = omega (arith, at.1, size, is_last, not_last) in
            place_Has left at.0 q (omega (arith, long, low)) (at_left at.0 low ∙ at.2)

    pub left_takes : Takes heap (Some state) left
    left_takes = (place_Has heap 0 state some is_state, left_Has)

    pub fallen_takes : (fallen again : List ℕ) → Linked fallen again (length keys) → SamePresent (set moved state 0) again → Takes heap (Some state) fallen
    fallen_takes fallen again down alike = (
      place_Has heap 0 state some is_state,
      λ q.
          let kept = same_members left (set moved state 0) fallen again (length keys) (length keys) left_linked down alike q in
          ((λ h. (left_Has q).0 (kept.0 h)), λ h. kept.1 ((left_Has q).1 h)),
    )
