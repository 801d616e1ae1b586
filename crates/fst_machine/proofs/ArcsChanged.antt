-- The arcs of each state changed, where they stand.
use Rattle.std.proofs.Common.{◌≡◌, ◌⊎◌, inl, inr, ℕ, zero, suc, ◌+◌, ◌<◌, ◌≤◌, ◌-◌, min, List, [], ◌∷◌, ◌++◌, Option, None, Some, length, get_or, slice_get, take, drop, refl, sym, ap, ◌∙◌, subst, arith}
use Rattle.std.specs.List.{All}
use Rattle.std.specs.Option.{IfSome}
use Rattle.std.proofs.lemmas.Bool.{cases_lt}
use Rattle.std.proofs.lemmas.List.{drop-take, length-append, length-drop, length-take, length-take-le, nil_from_length}
use Rattle.std.proofs.lemmas.List.Sums.{sum_by-cons}
use Rattle.std.proofs.lemmas.Option.{slice_get_within, slice_get-get_or, get_or_from_slice_get}
use Rattle.std.proofs.lemmas.Slice.{take-put_mid_below, drop-put_mid, between-put_mid}
use borrow.Rule.Slice.PartMut.{put_mid}
use Rattle.fst_semiring.specs.Cost.{Cost}
use Rattle.fst_machine.specs.ArcsChanged.{ArePartsChanged, IsArcsChanged, part_of}
use Rattle.fst_machine.specs.Machine.{Arc, State, Machine, IsArc, IsMachine, arc_total}
use Rattle.fst_machine.specs.SideBySide.{Follow, end_of}
use Rattle.fst_machine.specs.Store.{Slot, LiesIn, kept_state, kept_from, kept_states, slot_arcs}
use Rattle.fst_machine.specs.KeptMachine.{IsKept}
use Rattle.fst_machine.proofs.Keeping.{kept_length}
use Rattle.fst_machine.proofs.Retaining.{arcs_here, end_low, end_past, written_back}

-- the part of each state begins behind what they follow
follow_low : {V : Type 0} (behind : ℕ) (slots : List (Slot V)) (p : ℕ) (s : Slot V) → Follow behind slots → slice_get slots p ≡ Some s → 0 < s.count → behind ≤ s.first
follow_low behind [] p s follow there some = absurd (cc)
follow_low {V} behind (t ∷ slots) zero s follow there some =
    let same : t ≡ s = cc in
    let low : (0 < s.count → behind ≤ s.first) = subst (λ (u : Slot V). 0 < u.count → behind ≤ u.first) same follow.0 in
    low some
follow_low behind (t ∷ slots) (suc p) s follow there some =
    let after = follow_low (end_of behind t.first t.count) slots p s follow.1 there some in
    omega (arith, after, end_low behind t.first t.count follow.0)

-- the part of a state ends where that of a later one begins, or before
pub follow_apart : {V : Type 0} (behind : ℕ) (slots : List (Slot V)) (p q : ℕ) (s t : Slot V) → Follow behind slots → p < q → slice_get slots p ≡ Some s → slice_get slots q ≡ Some t → 0 < s.count → 0 < t.count → s.first + s.count ≤ t.first
follow_apart behind [] p q s t follow before here there some more = absurd (cc)
follow_apart behind (u ∷ slots) p zero s t follow before here there some more = absurd (omega (arith, before))
follow_apart {V} behind (u ∷ slots) zero (suc q) s t follow before here there some more =
    let same : u ≡ s = cc in
    let rest : Follow (end_of behind s.first s.count) slots = subst (λ (v : Slot V). Follow (end_of behind v.first v.count) slots) same follow.1 in
    omega (arith, follow_low (end_of behind s.first s.count) slots q t rest there more, end_past behind s.first s.count some)
follow_apart behind (u ∷ slots) (suc p) (suc q) s t follow before here there some more = follow_apart (end_of behind u.first u.count) slots p q s t follow.1 (omega (arith, before)) here there some more

-- a part before one that is written, behind it, and that part itself
pub part_below : {X : Type 0} (xs ys : List X) (at n first count : ℕ) → first + count ≤ at → at ≤ length xs → take count (drop first (put_mid at n xs ys)) ≡ take count (drop first xs)
part_below xs ys at n first count low inside =
    sym (drop-take first count (put_mid at n xs ys)) ∙ (ap (drop first) (take-put_mid_below at n xs ys (first + count) low inside) ∙ drop-take first count xs)

pub part_behind : {X : Type 0} (xs ys : List X) (at n first count : ℕ) → at + n ≤ first → at ≤ length xs → length ys ≡ n → take count (drop first (put_mid at n xs ys)) ≡ take count (drop first xs)
part_behind xs ys at n first count high inside size = ap (take count) (drop-put_mid at n xs ys first high inside size)

pub part_itself : {X : Type 0} (xs ys : List X) (at n : ℕ) → at ≤ length xs → length ys ≡ n → take n (drop at (put_mid at n xs ys)) ≡ ys
part_itself {X} xs ys at n inside size =
    let count : (at + n) - at ≡ n = omega arith in
    ap (λ k. take k (drop at (put_mid at n xs ys))) (sym count) ∙ between-put_mid at n xs ys (at + n) inside (size ∙ sym count)

-- a list with a part written is as long
pub length-put_mid : {X : Type 0} (xs ys : List X) (at n : ℕ) → at + n ≤ length xs → length ys ≡ n → length (put_mid at n xs ys) ≡ length xs
length-put_mid xs ys at n room size =
    let whole = length-append (take at xs) (ys ++ drop n (drop at xs)) in
    let own = length-append ys (drop n (drop at xs)) in
    omega (arith, room, size, whole, own, length-take-le at xs (omega (arith, room)), length-drop n (drop at xs), length-drop at xs)

-- the parts of the states before the k-th are changed, and those of the others are as they were
pub record IsChanging {V : Type 0} (changes : List (Arc V ℕ) → List (Arc V ℕ) → Type 0) (slots : List (Slot V)) (old store : List (Arc V ℕ)) (k : ℕ) : Type 0 where
  pub size : length store ≡ length old
  pub done : (p : ℕ) (s : Slot V) → p < k → slice_get slots p ≡ Some s → changes (part_of s old) (part_of s store)
  pub left : (p : ℕ) (s : Slot V) → k ≤ p → slice_get slots p ≡ Some s → part_of s store ≡ part_of s old

module _ {V : Type 0} (changes : List (Arc V ℕ) → List (Arc V ℕ) → Type 0) (slots : List (Slot V)) (old : List (Arc V ℕ)) where
  -- none is changed yet
  pub changing_none : IsChanging changes slots old old 0
  changing_none = record {
    size = refl;
    done = λ p s low there. absurd (omega (arith, low));
    left = λ p s low there. refl;
  }

  -- that of one more is
  pub changing_more : (store ys : List (Arc V ℕ)) (k at n : ℕ) (s : Slot V) → slice_get slots k ≡ Some s → Follow 0 slots → LiesIn (length old) s → (s.count ≡ 0 → at ≡ 0) → (0 < s.count → at ≡ s.first) → n ≡ s.count → length ys ≡ n → changes (take n (drop at store)) ys → IsChanging changes slots old store k → IsChanging changes slots old (put_mid at n store ys) (k + 1)
  changing_more store ys k at n s here follow lies none_at some_at count length_is changed is = by_count (cases_lt 0 s.count)
    where
      -- a part with no arcs is the same in all stores
      none_same : (t : Slot V) (xs zs : List (Arc V ℕ)) → t.count ≤ 0 → part_of t xs ≡ part_of t zs
      none_same t xs zs none = let e : t.count ≡ 0 = omega (arith, none) in ap (λ c. take c (drop t.first xs)) e ∙ sym (ap (λ c. take c (drop t.first zs)) e)

      by_count : (0 < s.count) ⊎ (s.count ≤ 0) → IsChanging changes slots old (put_mid at n store ys) (k + 1)
      by_count (inr none) =
          let zero_count : s.count ≡ 0 = omega (arith, none) in
          let zero_n : n ≡ 0 = count ∙ zero_count in
          let nothing : ys ≡ [] = nil_from_length ys (length_is ∙ zero_n) in
          let same : put_mid at n store ys ≡ store = ap (λ a. put_mid a n store ys) (none_at zero_count) ∙ (ap (λ m. put_mid 0 m store ys) zero_n ∙ ap (λ (zs : List (Arc V ℕ)). put_mid 0 0 store zs) nothing) in
          let were : take n (drop at store) ≡ part_of s old = ap (λ m. take m (drop at store)) zero_n ∙ sym (ap (λ m. take m (drop s.first old)) zero_count) in
          let are : ys ≡ part_of s store = nothing ∙ sym (ap (λ m. take m (drop s.first store)) zero_count) in
          let own : changes (part_of s old) (part_of s store) = subst (λ (zs : List (Arc V ℕ)). changes (part_of s old) zs) are (subst (λ (zs : List (Arc V ℕ)). changes zs ys) were changed) in
          subst (λ (xs : List (Arc V ℕ)). IsChanging changes slots old xs (k + 1)) (sym same) (record {
            size = is.size;
            done = λ p t low there. by_place p t there (cases_lt p k) own low;
            left = λ p t low there. is.left p t (omega (arith, low)) there;
          })
        where
          by_place : (p : ℕ) (t : Slot V) → slice_get slots p ≡ Some t → (p < k) ⊎ (k ≤ p) → changes (part_of s old) (part_of s store) → p < k + 1 → changes (part_of t old) (part_of t store)
          by_place p t there (inl before) own low = is.done p t before there
          by_place p t there (inr past) own low =
              let place : p ≡ k = omega (arith, past, low) in
              let both : Some t ≡ Some s = sym there ∙ (ap (slice_get slots) place ∙ here) in
              let same : s ≡ t = cc in
              subst (λ (u : Slot V). changes (part_of u old) (part_of u store)) same own
      by_count (inl some) = record {
        size = sizes;
        done = λ p t low there. by_place p t there (cases_lt p k) low;
        left = λ p t low there. other_behind p t (omega (arith, low)) there (cases_lt 0 t.count) ∙ is.left p t (omega (arith, low)) there;
      }
        where
          place_at : at ≡ s.first
          place_at = some_at some

          room : at + n ≤ length store
          room = omega (arith, place_at, count, lies some, is.size)

          sizes : length (put_mid at n store ys) ≡ length old
          sizes = length-put_mid store ys at n room length_is ∙ is.size

          own : changes (part_of s old) (part_of s (put_mid at n store ys))
          own =
              let were : take n (drop at store) ≡ part_of s old = ap (λ m. take m (drop at store)) count ∙ (ap (λ a. take s.count (drop a store)) place_at ∙ is.left k s (omega arith) here) in
              let are : part_of s (put_mid at n store ys) ≡ ys = ap (λ m. take m (drop s.first (put_mid at n store ys))) (sym count) ∙ (ap (λ a. take n (drop a (put_mid at n store ys))) (sym place_at) ∙ part_itself store ys at n (omega (arith, room)) length_is) in
              subst (λ (zs : List (Arc V ℕ)). changes (part_of s old) zs) (sym are) (subst (λ (zs : List (Arc V ℕ)). changes zs ys) were changed)

          other_below : (p : ℕ) (t : Slot V) → p < k → slice_get slots p ≡ Some t → (0 < t.count) ⊎ (t.count ≤ 0) → part_of t (put_mid at n store ys) ≡ part_of t store
          other_below p t before there (inr none) = none_same t (put_mid at n store ys) store none
          other_below p t before there (inl more) = part_below store ys at n t.first t.count (omega (arith, follow_apart 0 slots p k t s follow before there here more some, place_at)) (omega (arith, room))

          other_behind : (p : ℕ) (t : Slot V) → k < p → slice_get slots p ≡ Some t → (0 < t.count) ⊎ (t.count ≤ 0) → part_of t (put_mid at n store ys) ≡ part_of t store
          other_behind p t after there (inr none) = none_same t (put_mid at n store ys) store none
          other_behind p t after there (inl more) = part_behind store ys at n t.first t.count (omega (arith, follow_apart 0 slots k p s t follow after here there some more, place_at, count)) (omega (arith, room)) length_is

          by_place : (p : ℕ) (t : Slot V) → slice_get slots p ≡ Some t → (p < k) ⊎ (k ≤ p) → p < k + 1 → changes (part_of t old) (part_of t (put_mid at n store ys))
          by_place p t there (inl before) low = subst (λ (zs : List (Arc V ℕ)). changes (part_of t old) zs) (sym (other_below p t before there (cases_lt 0 t.count))) (is.done p t before there)
          by_place p t there (inr past) low =
              let place : p ≡ k = omega (arith, past, low) in
              let both : Some t ≡ Some s = sym there ∙ (ap (slice_get slots) place ∙ here) in
              let same : s ≡ t = cc in
              subst (λ (u : Slot V). changes (part_of u old) (part_of u (put_mid at n store ys))) same own

  -- all are
  pub changing_all : (store : List (Arc V ℕ)) (k : ℕ) → length slots ≤ k → IsChanging changes slots old store k → ArePartsChanged changes slots old store
  changing_all store k all is p s there = is.done p s (omega (arith, slice_get_within slots p s there, all)) there

-- a part of a list that is as long has as many elements
part_sized : {X : Type 0} (xs ys : List X) (first count : ℕ) → length xs ≡ length ys → length (take count (drop first xs)) ≡ length (take count (drop first ys))
part_sized xs ys first count size =
    let same : length (drop first xs) ≡ length (drop first ys) = length-drop first xs ∙ (ap (λ n. n - first) size ∙ sym (length-drop first ys)) in
    length-take count (drop first xs) ∙ (ap (min count) same ∙ sym (length-take count (drop first ys)))

-- the states have as many arcs in a store that is as long
pub arc_total-sized : {V : Type 0} (old new : List (Arc V ℕ)) (from : ℕ) (slots : List (Slot V)) → length old ≡ length new → arc_total (kept_from old [] from slots) ≡ arc_total (kept_from new [] from slots)
arc_total-sized old new from [] size = refl
arc_total-sized {V} old new from (s ∷ slots) size =
    let all = sum_by-cons (λ (t : State V). length t.arcs) (kept_state old [] from s) (kept_from old [] (suc from) slots) in
    let all_new = sum_by-cons (λ (t : State V). length t.arcs) (kept_state new [] from s) (kept_from new [] (suc from) slots) in
    let own : length (slot_arcs old [] from s) ≡ length (slot_arcs new [] from s) = ap length (arcs_here old from s) ∙ (part_sized old new s.first s.count size ∙ ap length (sym (arcs_here new from s))) in
    let rest = arc_total-sized old new (suc from) slots size in
    omega (arith, all, all_new, own, rest)

-- the slot of a state that is read
kept_at : {V : Type 0} (store : List (Arc V ℕ)) (from : ℕ) (slots : List (Slot V)) (p : ℕ) (s : State V) → slice_get (kept_from store [] from slots) p ≡ Some s → (u : Slot V) × (slice_get slots p ≡ Some u) × (u.final ≡ s.final) × (part_of u store ≡ s.arcs)
kept_at store from [] p s there = absurd (cc)
kept_at {V} store from (u ∷ slots) zero s there =
    let same : kept_state store [] from u ≡ s = cc in
    (u, refl, ap (λ (t : State V). t.final) same, sym (arcs_here store from u) ∙ ap (λ (t : State V). t.arcs) same)
kept_at store from (u ∷ slots) (suc p) s there = kept_at store (suc from) slots p s there

module _ {V : Type 0} (changes : List (Arc V ℕ) → List (Arc V ℕ) → Type 0) where
  -- the machine of a store whose parts are changed
  arcs_changed : (start : Option ℕ) (slots : List (Slot V)) (old new : List (Arc V ℕ)) → ArePartsChanged changes slots old new → IsArcsChanged changes (record { start = start; states = kept_states old [] slots }) (record { start = start; states = kept_states new [] slots })
  arcs_changed start slots old new are = record {
    start = refl;
    size = kept_length new [] 0 slots ∙ sym (kept_length old [] 0 slots);
    final = λ p s t one two. (both p s t one two).0;
    arcs = λ p s t one two. (both p s t one two).1;
  }
    where
      both : (p : ℕ) (s t : State V) → slice_get (kept_states old [] slots) p ≡ Some s → slice_get (kept_states new [] slots) p ≡ Some t → (t.final ≡ s.final) × changes s.arcs t.arcs
      both p s t one two =
          let was = kept_at old 0 slots p s one in
          let is = kept_at new 0 slots p t two in
          let there : Some is.0 ≡ Some was.0 = sym is.1 ∙ was.1 in
          let same : is.0 ≡ was.0 = cc in
          let own : changes (part_of was.0 old) (part_of was.0 new) = are p was.0 was.1 in
          let after : part_of was.0 new ≡ t.arcs = ap (λ (u : Slot V). part_of u new) (sym same) ∙ is.3 in
          (sym is.2 ∙ (ap (λ (u : Slot V). u.final) same ∙ was.2), subst (λ (zs : List (Arc V ℕ)). changes s.arcs zs) after (subst (λ (zs : List (Arc V ℕ)). changes zs (part_of was.0 new)) was.3 own))

  -- it is a machine where arcs of a machine become such arcs
  changed_machine : (value : V → Cost) (m c : Machine V) → ((n : ℕ) (arcs new : List (Arc V ℕ)) → changes arcs new → All (IsArc value n) arcs → All (IsArc value n) new) → IsArcsChanged changes m c → arc_total c.states ≡ arc_total m.states → IsMachine value m → IsMachine value c
  changed_machine value m c keeps is total h = record {
    start = start_in c.start refl;
    arcs = λ k d low. good k (get_or c.states k d) (slice_get-get_or c.states k d low);
    few_states = omega (arith, h.few_states, is.size);
    few_arcs = omega (arith, h.few_arcs, total);
  }
    where
      start_in : (start : Option ℕ) → c.start ≡ start → IfSome start (λ s. s < length c.states)
      start_in None e = tt
      start_in (Some i) e = subst (λ (n : ℕ). i < n) (sym is.size) (subst (λ (o : Option ℕ). IfSome o (λ s. s < length m.states)) (sym is.start ∙ e) h.start)

      old_state : (k : ℕ) (t : State V) → slice_get c.states k ≡ Some t → (s : State V) × (slice_get m.states k ≡ Some s)
      old_state k t there =
          let low : k < length m.states = omega (arith, slice_get_within c.states k t there, is.size) in
          (get_or m.states k t, slice_get-get_or m.states k t low)

      good : (k : ℕ) (t : State V) → slice_get c.states k ≡ Some t → All (IsArc value (length c.states)) t.arcs
      good k t there =
          let s = old_state k t there in
          let old : All (IsArc value (length m.states)) s.0.arcs = subst (λ (u : State V). All (IsArc value (length m.states)) u.arcs) (get_or_from_slice_get m.states k s.0 s.0 s.1) (h.arcs k s.0 (slice_get_within m.states k s.0 s.1)) in
          subst (λ (n : ℕ). All (IsArc value n) t.arcs) (sym is.size) (keeps (length m.states) s.0.arcs t.arcs (is.arcs k s.0 t s.1 there) old)

-- its fields are kept as they were, where no list stands apart
pub IsKept-sized : {V : Type 0} (slots : List (Slot V)) (old new : List (Arc V ℕ)) (total : ℕ) → length new ≡ length old → IsKept slots old [] total → IsKept slots new [] total
IsKept-sized slots old new total size is = record {
  counted = is.counted ∙ arc_total-sized old new 0 slots (sym size);
  fits = omega (arith, size, is.fits);
  parts = subst (λ n. All (LiesIn n) slots) (sym size) is.parts;
  few_states = is.few_states;
}

-- what holds where the parts of the store of a machine that is seen are changed
pub record IsWritten {V : Type 0} (changes : List (Arc V ℕ) → List (Arc V ℕ) → Type 0) (value : V → Cost) (start : Option ℕ) (slots : List (Slot V)) (total : ℕ) (new : List (Arc V ℕ)) (m : Machine V) : Type 0 where
  pub kept : IsKept slots new [] total
  pub machine : IsMachine value (record { start = start; states = kept_states new [] slots })
  pub is : IsArcsChanged changes m (record { start = start; states = kept_states new [] slots })

-- it holds by what is read of the machine, and what is written of its store
pub parts_written : {V : Type 0} (changes : List (Arc V ℕ) → List (Arc V ℕ) → Type 0) (value : V → Cost) (start : Option ℕ) (slots seen : List (Slot V)) (total : ℕ) (old lent given : List (Arc V ℕ)) (len : ℕ) (m : Machine V)
    → ((n : ℕ) (arcs new : List (Arc V ℕ)) → changes arcs new → All (IsArc value n) arcs → All (IsArc value n) new) → IsKept slots old [] total → IsMachine value (record { start = start; states = kept_states old [] slots }) → ◌≡◌ {A = Machine V} (record { start = start; states = kept_states old [] slots }) m
    → seen ≡ slots → lent ≡ old → length lent ≡ len → length given ≡ length lent → ArePartsChanged changes seen lent given → IsWritten changes value start slots total (take len (given ++ drop (length given) old)) m
parts_written {V} changes value start slots seen total old lent given len m keeps kept machine view same_slots same count size are = record {
  kept = kept_new;
  machine = changed_machine changes value m made keeps is_new total_new (subst (λ (n : Machine V). IsMachine value n) view machine);
  is = is_new;
}
  where
    new : List (Arc V ℕ)
    new = take len (given ++ drop (length given) old)

    made : Machine V
    made = record { start = start; states = kept_states new [] slots }

    whole : length given ≡ length old
    whole = size ∙ ap length same

    back : new ≡ given
    back = written_back old given len (sym count ∙ ap length same) whole

    parts : ArePartsChanged changes slots old new
    parts =
        subst (λ (xs : List (Arc V ℕ)). ArePartsChanged changes slots old xs) (sym back)
        (subst (λ (xs : List (Arc V ℕ)). ArePartsChanged changes slots xs given) same (subst (λ (ss : List (Slot V)). ArePartsChanged changes ss lent given) same_slots are))

    kept_new : IsKept slots new [] total
    kept_new = IsKept-sized slots old new total (ap length back ∙ whole) kept

    is_new : IsArcsChanged changes m made
    is_new = subst (λ (n : Machine V). IsArcsChanged changes n made) view (arcs_changed changes start slots old new parts)

    total_new : arc_total made.states ≡ arc_total m.states
    total_new = sym kept_new.counted ∙ (kept.counted ∙ ap (λ (n : Machine V). arc_total n.states) view)
