-- A state enters a heap, or gets a new key in it.
use Rattle.std.proofs.Common.{◌≡◌, ◌≢◌, ◌⊎◌, inl, inr, ℕ, ◌+◌, ◌<◌, ◌≤◌, List, [], ◌∷◌, ◌++◌, length, set, get_or, sym, refl, ap, ◌∙◌, subst, arith}
use Rattle.std.proofs.lemmas.Bool.{cases_eq}
use Rattle.std.proofs.lemmas.List.{get_or-set_same, get_or-set_other, length-set, length-append, get_or_append_left}
use Rattle.std.proofs.Math.Seq.{get_or-append_seam}
use Rattle.fst_semiring.specs.declared.key.Key.{Key}
use Rattle.fst_semiring.specs.Keys.{key_cmp}
use Rattle.fst_machine.specs.BreadthFirst.{Has}
use Rattle.fst_queue.specs.Members.{Adds}
use Rattle.fst_queue.specs.Heap.{key_at, key_in, no_key, Heaped, Linked, NoWorse, SamePresent}
use Rattle.fst_queue.specs.HeapOrder.{Falling, IsBelow, Rising}
use Rattle.fst_queue.proofs.Members.{pushed_adds}
use Rattle.fst_queue.proofs.HeapMembers.{place_Has, same_members}
use Rattle.fst_queue.proofs.HeapKeys.{along, NoWorse-trans}

-- the tables of a heap have grown
pub heaped_grown : (heap places more : List ℕ) (keys new : List Key) → Heaped heap places keys → length places ≤ length more → ((q : ℕ) → get_or more q 0 ≡ get_or places q 0) → length keys ≤ length new → ((q : ℕ) → key_at new q ≡ key_at keys q) → Heaped heap more new
heaped_grown heap places more keys new heaped longer same wider alike = record {
  linked = record {
    low = λ i low. let was = heaped.linked.low i low in (omega (arith, was.0), omega (arith, was.1));
    placed = λ i low. same (get_or heap i 0) ∙ heaped.linked.placed i low;
    back = λ q i e. heaped.linked.back q i (sym (same q) ∙ e);
  };
  ordered = λ p c is low. along _ _ _ _ (alike (get_or heap p 0)) (alike (get_or heap c 0)) (heaped.ordered p c is low);
}

module _ (heap places : List ℕ) (keys : List Key) (state : ℕ) (key : Key) (heaped : Heaped heap places keys) (room : state < length places) (fits : state < length keys) where
  key_here : key_at (set keys state key) state ≡ key
  key_here = get_or-set_same keys state key no_key fits

  key_there : (q : ℕ) → q ≢ state → key_at (set keys state key) q ≡ key_at keys q
  key_there q other = get_or-set_other keys state q key no_key other

  module _ (absent : get_or places state 0 ≡ 0) (new : List ℕ) (n : ℕ) (is : new ≡ heap ++ state ∷ []) (is_n : n ≡ length heap) where
    len : length new ≡ n + 1
    len = ap length is ∙ (let e : length (heap ++ state ∷ []) ≡ length heap + 1 = length-append heap (state ∷ []) in omega (arith, e, is_n))

    at_old : (i : ℕ) → i < n → get_or new i 0 ≡ get_or heap i 0
    at_old i low = ap (λ (xs : List ℕ). get_or xs i 0) is ∙ get_or_append_left heap (state ∷ []) 0 i (omega arith)

    at_new : get_or new n 0 ≡ state
    at_new = ap (λ (xs : List ℕ). get_or xs n 0) is ∙ ap (λ (j : ℕ). get_or (heap ++ state ∷ []) j 0) is_n ∙ get_or-append_seam heap state [] 0

    not_state : (i : ℕ) → i < n → get_or heap i 0 ≢ state
    not_state i low e = let wrong : i + 1 ≡ 0 = sym (heaped.linked.placed i (omega arith)) ∙ ap (λ (q : ℕ). get_or places q 0) e ∙ absent in omega arith

    pub entered_linked : Linked new (set places state (n + 1)) (length (set keys state key))
    entered_linked = record { low = λ i low. by_low i (cases_eq i n) low; placed = λ i low. by_placed i (cases_eq i n) low; back = λ q i e. by_back q i (cases_eq q state) e }
      where
        by_low : (i : ℕ) → (i ≡ n) ⊎ (i ≡ n → ⊥) → i < length new → (get_or new i 0 < length (set places state (n + 1))) × (get_or new i 0 < length (set keys state key))
        by_low i (inl e) low = let it : get_or new i 0 ≡ state = ap (λ (j : ℕ). get_or new j 0) e ∙ at_new in (omega (arith, length-set places state (n + 1)), omega (arith, length-set keys state key))
        by_low i (inr other) low =
            let it = at_old i (omega (arith, len)) in
            let was = heaped.linked.low i (omega (arith, len)) in
            (omega (arith, length-set places state (n + 1), was.0, it), omega (arith, length-set keys state key, was.1, it))

        by_placed : (i : ℕ) → (i ≡ n) ⊎ (i ≡ n → ⊥) → i < length new → get_or (set places state (n + 1)) (get_or new i 0) 0 ≡ i + 1
        by_placed i (inl e) low = ap (λ (q : ℕ). get_or (set places state (n + 1)) q 0) (ap (λ (j : ℕ). get_or new j 0) e ∙ at_new) ∙ get_or-set_same places state (n + 1) 0 room ∙ ap (λ (j : ℕ). j + 1) (sym e)
        by_placed i (inr other) low =
            let below : i < n = omega (arith, len) in
            ap (λ (q : ℕ). get_or (set places state (n + 1)) q 0) (at_old i below) ∙ get_or-set_other places state (get_or heap i 0) (n + 1) 0 (not_state i below) ∙ heaped.linked.placed i (omega arith)

        by_back : (q i : ℕ) → (q ≡ state) ⊎ (q ≡ state → ⊥) → get_or (set places state (n + 1)) q 0 ≡ i + 1 → (i < length new) × (get_or new i 0 ≡ q)
        by_back q i (inl e) h =
            let same : i + 1 ≡ n + 1 = sym h ∙ ap (λ (j : ℕ). get_or (set places state (n + 1)) j 0) e ∙ get_or-set_same places state (n + 1) 0 room in
            let last : i ≡ n = omega arith in
            (omega (arith, len), ap (λ (j : ℕ). get_or new j 0) last ∙ at_new ∙ sym e)
        by_back q i (inr other) h =
            let was = heaped.linked.back q i (sym (get_or-set_other places state q (n + 1) 0 other) ∙ h) in
            (omega (arith, len, was.0), at_old i (omega (arith, was.0)) ∙ was.1)

    pub entered_rising : Rising key_cmp (length new) (key_in (set keys state key) new) n
    entered_rising = record { ordered = λ p c below low other. by p c below (omega (arith, len)); across = λ p c up below low. absurd (omega (arith, len)) }
      where
        kept : (i : ℕ) → i < n → key_in (set keys state key) new i ≡ key_in keys heap i
        kept i low = ap (key_at (set keys state key)) (at_old i low) ∙ key_there (get_or heap i 0) (not_state i low)

        by : (p c : ℕ) → IsBelow p c → c < n → NoWorse (key_in (set keys state key) new p) (key_in (set keys state key) new c)
        by p c below low = along _ _ _ _ (kept p (omega arith)) (kept c low) (heaped.ordered p c below (omega arith))

    pub entered_adds : (risen moved : List ℕ) (size : ℕ) → Linked risen moved size → SamePresent (set places state (n + 1)) moved → Adds heap state risen
    entered_adds risen moved size linked same q =
        let kept = same_members new (set places state (n + 1)) risen moved (length (set keys state key)) size entered_linked linked same q in
        let put = pushed_adds heap new state is q in
        ((λ h. put.0 (kept.0 h)), λ h. kept.1 (put.1 h))

  module _ (at : ℕ) (present : get_or places state 0 ≡ at + 1) where
    pub rekey_within : at < length heap
    rekey_within = (heaped.linked.back state at present).0

    there : get_or heap at 0 ≡ state
    there = (heaped.linked.back state at present).1

    key_at_place : key_in (set keys state key) heap at ≡ key
    key_at_place = ap (key_at (set keys state key)) there ∙ key_here

    old_key : key_in keys heap at ≡ key_at keys state
    old_key = ap (key_at keys) there

    kept : (i : ℕ) → i < length heap → i ≢ at → key_in (set keys state key) heap i ≡ key_in keys heap i
    kept i low other = key_there (get_or heap i 0) (λ e. other (let same : i + 1 ≡ at + 1 = sym (heaped.linked.placed i low) ∙ ap (λ (q : ℕ). get_or places q 0) e ∙ present in omega arith))

    pub rekeyed_linked : Linked heap places (length (set keys state key))
    rekeyed_linked = subst (λ (size : ℕ). Linked heap places size) (sym (length-set keys state key)) heaped.linked

    pub rekeyed_rising : NoWorse key (key_at keys state) → Rising key_cmp (length heap) (key_in (set keys state key) heap) at
    rekeyed_rising better = record { ordered = λ p c below low other. by p c below low other (cases_eq p at); across = λ p c up below low. along _ _ _ _ (kept p (omega arith) (λ h. omega arith)) (kept c low (λ h. omega arith)) (NoWorse-trans (key_in keys heap p) (key_in keys heap at) (key_in keys heap c) (heaped.ordered p at up (omega arith)) (heaped.ordered at c below low)) }
      where
        by : (p c : ℕ) → IsBelow p c → c < length heap → c ≢ at → (p ≡ at) ⊎ (p ≡ at → ⊥) → NoWorse (key_in (set keys state key) heap p) (key_in (set keys state key) heap c)
        by p c below low other (inl e) =
            along _ _ _ _ (ap (key_in (set keys state key) heap) e ∙ key_at_place) (kept c low other) (NoWorse-trans key (key_at keys state) (key_in keys heap c) better (along _ _ _ _ (sym old_key) refl (heaped.ordered at c (omega arith, omega arith) low)))
        by p c below low other (inr np) = along _ _ _ _ (kept p (omega arith) np) (kept c low other) (heaped.ordered p c below low)

    pub rekeyed_falling : NoWorse (key_at keys state) key → Falling key_cmp (length heap) (key_in (set keys state key) heap) at
    rekeyed_falling worse = record { ordered = λ p c below low other. by p c below low other (cases_eq c at); across = λ p c up below low. along _ _ _ _ (kept p (omega arith) (λ h. omega arith)) (kept c low (λ h. omega arith)) (NoWorse-trans (key_in keys heap p) (key_in keys heap at) (key_in keys heap c) (heaped.ordered p at up (omega arith)) (heaped.ordered at c below low)) }
      where
        by : (p c : ℕ) → IsBelow p c → c < length heap → p ≢ at → (c ≡ at) ⊎ (c ≡ at → ⊥) → NoWorse (key_in (set keys state key) heap p) (key_in (set keys state key) heap c)
        by p c below low other (inl e) =
            along _ _ _ _ (kept p (omega arith) other) (ap (key_in (set keys state key) heap) e ∙ key_at_place) (NoWorse-trans (key_in keys heap p) (key_at keys state) key (along _ _ _ _ refl (sym old_key ∙ ap (key_in keys heap) (sym e)) (heaped.ordered p c below low)) worse)
        by p c below low other (inr nc) = along _ _ _ _ (kept p (omega arith) other) (kept c low nc) (heaped.ordered p c below low)

    pub rekeyed_adds : (moved_heap moved : List ℕ) (size : ℕ) → Linked moved_heap moved size → SamePresent places moved → Adds heap state moved_heap
    rekeyed_adds moved_heap moved size linked same q =
        let still = same_members heap places moved_heap moved (length keys) size heaped.linked linked same q in
        ((λ h. inl (still.0 h)), λ h. still.1 (old h))
      where
        old : Has heap q ⊎ (q ≡ state) → Has heap q
        old (inl h) = h
        old (inr e) = place_Has heap at q rekey_within (there ∙ sym e)
