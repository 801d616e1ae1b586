-- Tables of places after a write.
use Rattle.std.proofs.Common.{◌≡◌, ◌≢◌, ℕ, ◌+◌, ◌-◌, ◌<◌, ◌≤◌, ◌==◌, Bool, true, false, List, Option, refl, length, min, drop, get_or, set, Some, None, cond, sym, ap, ◌∙◌, subst, arith, ◌⊎◌, inl, inr}
use Rattle.std.specs.Prelude.{not}
use Rattle.std.specs.List.{position_or_len}
use Rattle.std.proofs.lemmas.List.{drop-set-add, drop-set-lt, get_or-drop, get_or-set_other, get_or-set_same, get_or_past, length-drop, length-set}
use Rattle.std.proofs.lemmas.List.Sums.{fails_before_first, passes_at_first, position_or_len_is, prefix_len-le-length}
use Rattle.std.proofs.lemmas.List.Folds.{position_or_len-set}
use Rattle.std.proofs.lemmas.Bool.{cases_eq, cases_lt, eq-eqb, eqb-true, ne_eqb}
use Rattle.fst_table.specs.declared.flat_table.Slot.{Slot}
use Rattle.std.specs.Option.{option_or}
use Rattle.std.specs.BTreeMap.{BTreeMap, get}
use Rattle.std.specs.Ordering.{nat_cmp}
use Rattle.fst_table.specs.Slots.{IsNear, IsOverflow, IsProbed, empty_slot, ends_probe, first_slot, number_at, number_of, place_at, place_in_slot, placed_among, placed_in_slots, probe_end, probe_from, slot_of, window_end, with_place}

-- a place that is not the one of empty slots is told
pub place-told : (place : ℕ) → place ≢ 4294967295 → place_in_slot place ≡ Some place
place-told place taken = ap (λ b. cond b None (Some place)) (ne_eqb place 4294967295 taken)

pub place-empty : (place : ℕ) → place ≡ 4294967295 → place_in_slot place ≡ None
place-empty place empty = ap (λ b. cond b None (Some place)) (eq-eqb place 4294967295 empty)

place-none : (place : ℕ) → place_in_slot place ≡ None → place ≡ 4294967295
place-none place none = go (cases_eq place 4294967295) where
  go : (place ≡ 4294967295) ⊎ (place ≢ 4294967295) → place ≡ 4294967295
  go (inl empty) = empty
  go (inr taken) = absurd (let told = place-told place taken in cc)

-- a slot that is not empty is one of the slots
within-taken : (xs : List Slot) (k : ℕ) → place_at xs k ≢ 4294967295 → k < length xs
within-taken xs k taken = go (cases_lt k (length xs)) where
  go : (k < length xs) ⊎ (length xs ≤ k) → k < length xs
  go (inl low) = low
  go (inr high) = absurd (taken (ap (λ (s : Slot). s.place) (get_or_past xs k empty_slot high)))

-- when the probe for a number ends at a slot
pub ends-empty : (n : ℕ) (slot : Slot) → slot.place ≡ 4294967295 → ends_probe n slot ≡ true
ends-empty n slot empty = ap (λ b. cond b true (number_of slot == n)) (eq-eqb slot.place 4294967295 empty)

ends-taken : (n : ℕ) (slot : Slot) → slot.place ≢ 4294967295 → ends_probe n slot ≡ (number_of slot == n)
ends-taken n slot taken = ap (λ b. cond b true (number_of slot == n)) (ne_eqb slot.place 4294967295 taken)

-- the slot at which a probe ends is empty or holds the number
probe-ends : (xs : List Slot) (n from : ℕ) → probe_from xs n from < length xs → ends_probe n (get_or xs (probe_from xs n from) empty_slot) ≡ true
probe-ends xs n from within =
    let ys = drop from xs in
    let long = length-drop from xs in
    ap (ends_probe n) (sym (get_or-drop from xs (position_or_len (ends_probe n) ys) empty_slot)) ∙ passes_at_first (ends_probe n) ys empty_slot (omega arith)

pub probe-holds : (xs : List Slot) (n : ℕ) → place_at xs (probe_end xs n) ≢ 4294967295 → number_at xs (probe_end xs n) ≡ n
probe-holds xs n taken =
    let slot = get_or xs (probe_end xs n) empty_slot in
    eqb-true (number_of slot) n (sym (ends-taken n slot taken) ∙ probe-ends xs n (first_slot (length xs) n) (within-taken xs (probe_end xs n) taken))

-- where one slot is written, and the probe ends at what it held as at what it holds
set-same : (xs : List Slot) (j : ℕ) (y : Slot) (n from : ℕ) → ends_probe n y ≡ ends_probe n (get_or xs j empty_slot) → probe_from (set xs j y) n from ≡ probe_from xs n from
set-same xs j y n from same = go (cases_lt j from) where
  go : (j < from) ⊎ (from ≤ j) → probe_from (set xs j y) n from ≡ probe_from xs n from
  go (inl low) = ap (λ (ys : List Slot). from + position_or_len (ends_probe n) ys) (drop-set-lt from xs j y low)
  go (inr high) =
      let i = j - from in
      let at : from + i ≡ j = omega arith in
      let moved = subst (λ (k : ℕ). drop from (set xs k y) ≡ set (drop from xs) i y) at (drop-set-add from xs i y) in
      let read = get_or-drop from xs i empty_slot ∙ ap (λ (k : ℕ). get_or xs k empty_slot) at in
      ap (λ (ys : List Slot). from + position_or_len (ends_probe n) ys) moved
      ∙ ap (λ (k : ℕ). from + k) (position_or_len-set (ends_probe n) (drop from xs) i y empty_slot (same ∙ ap (ends_probe n) (sym read)))

-- where an empty slot is written with another number, and the probe ended elsewhere
set-other : (xs : List Slot) (j : ℕ) (y : Slot) (n from : ℕ) → probe_from xs n from ≢ j → ends_probe n (get_or xs j empty_slot) ≡ true → probe_from (set xs j y) n from ≡ probe_from xs n from
set-other xs j y n from apart empty = go (cases_lt j from) where
  go : (j < from) ⊎ (from ≤ j) → probe_from (set xs j y) n from ≡ probe_from xs n from
  go (inl low) = ap (λ (ys : List Slot). from + position_or_len (ends_probe n) ys) (drop-set-lt from xs j y low)
  go (inr high) =
      let i = j - from in
      let at : from + i ≡ j = omega arith in
      let ys = drop from xs in
      let end = position_or_len (ends_probe n) ys in
      let moved = subst (λ (k : ℕ). drop from (set xs k y) ≡ set ys i y) at (drop-set-add from xs i y) in
      let read = get_or-drop from xs i empty_slot ∙ ap (λ (k : ℕ). get_or xs k empty_slot) at in
      let before : i < end → ⊥ = λ low. let fails = fails_before_first (ends_probe n) ys i empty_slot low in let ends = ap (ends_probe n) read ∙ empty in cc in
      let long = prefix_len-le-length (λ x. not (ends_probe n x)) ys in
      let same = length-set ys i y in
      let stays : position_or_len (ends_probe n) (set ys i y) ≡ end =
      position_or_len_is (ends_probe n) (set ys i y) end empty_slot (omega arith)
      (λ k low. ap (ends_probe n) (get_or-set_other ys i k y empty_slot (λ e. before (omega arith))) ∙ fails_before_first (ends_probe n) ys k empty_slot low)
      (λ low. ap (ends_probe n) (get_or-set_other ys i end y empty_slot (λ e. apart (omega arith))) ∙ passes_at_first (ends_probe n) ys empty_slot (omega arith)) in
      ap (λ (zs : List Slot). from + position_or_len (ends_probe n) zs) moved ∙ ap (λ (k : ℕ). from + k) stays

-- A number that is not known is written where its probe ends.
module _ (xs : List Slot) (n p : ℕ) (small : p < 4294967295) (within : probe_end xs n < length xs) (probed : IsProbed xs) (absent : placed_in_slots xs n ≡ None) where
  abbrev end : ℕ
  end = probe_end xs n

  abbrev written : Slot
  written = slot_of n p

  abbrev ys : List Slot
  ys = set xs end written

  was-empty : place_at xs end ≡ 4294967295
  was-empty = place-none (place_at xs end) absent

  number-written : number_of written ≡ n
  number-written = omega arith

  taken-now : p ≢ 4294967295
  taken-now e = absurd (omega arith)

  end-same : (m : ℕ) → probe_from ys m (first_slot (length ys) m) ≡ probe_from ys m (first_slot (length xs) m)
  end-same m = ap (λ (k : ℕ). probe_from ys m (first_slot k m)) (length-set xs end written)

  number-ends : probe_end ys n ≡ end
  number-ends =
      end-same n
      ∙ set-same xs end written n (first_slot (length xs) n) (ends-taken n written taken-now ∙ eq-eqb (number_of written) n number-written ∙ sym (ends-empty n (get_or xs end empty_slot) was-empty))

  other-ends : (m : ℕ) → probe_end xs m ≢ end → probe_end ys m ≡ probe_end xs m
  other-ends m apart = end-same m ∙ set-other xs end written m (first_slot (length xs) m) apart (ends-empty m (get_or xs end empty_slot) was-empty)

  read-there : get_or ys end empty_slot ≡ written
  read-there = get_or-set_same xs end written empty_slot within

  read-elsewhere : (k : ℕ) → k ≢ end → get_or ys k empty_slot ≡ get_or xs k empty_slot
  read-elsewhere k apart = get_or-set_other xs end k written empty_slot apart

  number-told : placed_in_slots ys n ≡ Some p
  number-told = ap (λ (k : ℕ). place_in_slot (place_at ys k)) number-ends ∙ ap (λ (s : Slot). place_in_slot s.place) read-there ∙ place-told p taken-now

  -- a number whose probe ended there was in no slot
  other-none : (m : ℕ) → m ≢ n → probe_end xs m ≡ end → placed_in_slots ys m ≡ None
  other-none m apart same = go (cases_eq (place_at ys (probe_end ys m)) 4294967295) where
    go : (place_at ys (probe_end ys m) ≡ 4294967295) ⊎ (place_at ys (probe_end ys m) ≢ 4294967295) → placed_in_slots ys m ≡ None
    go (inl empty) = place-empty (place_at ys (probe_end ys m)) empty
    go (inr taken) = absurd (
        let at = probe_end ys m in
        let holds : number_at ys at ≡ m = probe-holds ys m taken in
        let elsewhere : at ≢ end = λ e. apart (sym holds ∙ ap (number_at ys) e ∙ ap number_of read-there ∙ number-written) in
        let before = read-elsewhere at elsewhere in
        let there = probed at (λ e. taken (ap (λ (s : Slot). s.place) before ∙ e)) in
        elsewhere (sym there ∙ ap (probe_end xs) (sym (ap number_of before) ∙ holds) ∙ same))

  other-told : (m : ℕ) → m ≢ n → placed_in_slots ys m ≡ placed_in_slots xs m
  other-told m apart = go (cases_eq (probe_end xs m) end) where
    go : (probe_end xs m ≡ end) ⊎ (probe_end xs m ≢ end) → placed_in_slots ys m ≡ placed_in_slots xs m
    go (inl same) = other-none m apart same ∙ sym (place-empty (place_at xs (probe_end xs m)) (ap (place_at xs) same ∙ was-empty))
    go (inr elsewhere) =
        ap (λ (k : ℕ). place_in_slot (place_at ys k)) (other-ends m elsewhere) ∙ ap (λ (s : Slot). place_in_slot s.place) (read-elsewhere (probe_end xs m) elsewhere)

  pub write-told : (m : ℕ) → placed_in_slots ys m ≡ cond (m == n) (Some p) (placed_in_slots xs m)
  write-told m = go (cases_eq m n) where
    go : (m ≡ n) ⊎ (m ≢ n) → placed_in_slots ys m ≡ cond (m == n) (Some p) (placed_in_slots xs m)
    go (inl same) = ap (placed_in_slots ys) same ∙ number-told ∙ sym (ap (λ b. cond b (Some p) (placed_in_slots xs m)) (eq-eqb m n same))
    go (inr apart) = other-told m apart ∙ sym (ap (λ b. cond b (Some p) (placed_in_slots xs m)) (ne_eqb m n apart))

  pub write-probed : IsProbed ys
  write-probed k taken = go (cases_eq k end) where
    go : (k ≡ end) ⊎ (k ≢ end) → probe_end ys (number_at ys k) ≡ k
    go (inl same) = ap (λ (j : ℕ). probe_end ys (number_at ys j)) same ∙ ap (λ (s : Slot). probe_end ys (number_of s)) read-there ∙ ap (probe_end ys) number-written ∙ number-ends ∙ sym same
    go (inr apart) =
        let before = read-elsewhere k apart in
        let there = probed k (λ e. taken (ap (λ (s : Slot). s.place) before ∙ e)) in
        ap (λ (s : Slot). probe_end ys (number_of s)) before ∙ other-ends (number_at xs k) (λ e. apart (sym there ∙ e)) ∙ there

  window-same : (m : ℕ) → window_end ys m ≡ window_end xs m
  window-same m = ap (λ (len : ℕ). min (first_slot len m + 32) len) (length-set xs end written)

  still-taken : (k : ℕ) → place_at xs k ≢ 4294967295 → place_at ys k ≢ 4294967295
  still-taken k taken = go (cases_eq k end) where
    go : (k ≡ end) ⊎ (k ≢ end) → place_at ys k ≢ 4294967295
    go (inl same) = absurd (taken (ap (place_at xs) same ∙ was-empty))
    go (inr apart) = λ e. taken (ap (λ (s : Slot). s.place) (sym (read-elsewhere k apart)) ∙ e)

  pub write-near : end < window_end xs n → IsNear xs → IsNear ys
  write-near low near k taken = go (cases_eq k end) where
    go : (k ≡ end) ⊎ (k ≢ end) → k < window_end ys (number_at ys k)
    go (inl same) = let at = ap (window_end ys) (ap (number_at ys) same ∙ ap number_of read-there ∙ number-written) ∙ window-same n in omega arith
    go (inr apart) =
        let before = read-elsewhere k apart in
        let there = near k (λ e. taken (ap (λ (s : Slot). s.place) before ∙ e)) in
        let at = ap (window_end ys) (ap number_of before) ∙ window-same (number_at xs k) in
        omega arith

  module _ (overflow : BTreeMap ℕ ℕ) (lacks : get nat_cmp overflow n ≡ None) where
    pub write-overflow : IsOverflow xs overflow → IsOverflow ys overflow
    write-overflow overflows m q is =
        let was = overflows m q is in (
          λ k from low. let first = ap (λ (len : ℕ). first_slot len m) (length-set xs end written) in let window = window-same m in still-taken k (was.0 k (omega arith) (omega arith)),
          other-told m (λ e. let none = ap (get nat_cmp overflow) e ∙ lacks in absurd (let both = sym is ∙ none in cc)) ∙ was.1,
          was.2,
        )

    pub write-placed : (m : ℕ) → placed_among ys overflow m ≡ with_place (placed_among xs overflow) n p m
    write-placed m = ap (λ o. option_or o (get nat_cmp overflow m)) (write-told m) ∙ go (m == n) where
      go : (b : Bool) → option_or (cond b (Some p) (placed_in_slots xs m)) (get nat_cmp overflow m) ≡ cond b (Some p) (placed_among xs overflow m)
      go true = refl
      go false = refl

-- The numbers of the first slots of a table, and no others, are known.
pub record HasFront (from : List Slot) (found : ℕ → Option ℕ) (count : ℕ) : Type 0 where
  pub known : (k : ℕ) → k < count → place_at from k ≢ 4294967295 → found (number_at from k) ≡ Some (place_at from k)
  pub others : (n : ℕ) → ((k : ℕ) → k < count → place_at from k ≢ 4294967295 → number_at from k ≢ n) → found n ≡ None

pub front-none : (from : List Slot) (found : ℕ → Option ℕ) → ((n : ℕ) → found n ≡ None) → HasFront from found 0
front-none from found none = record { known = λ k low _. absurd (omega arith); others = λ n _. none n }

-- an empty slot more
pub front-empty : (from : List Slot) (found : ℕ → Option ℕ) (count : ℕ) → place_at from count ≡ 4294967295 → HasFront from found count → HasFront from found (count + 1)
front-empty from found count empty front = record {
  known = λ k low taken. front.known k (within k low taken) taken;
  others = λ n lacks. front.others n (λ k low taken. lacks k (omega arith) taken);
} where
  within : (k : ℕ) → k < count + 1 → place_at from k ≢ 4294967295 → k < count
  within k low taken = go (cases_eq k count) where
    go : (k ≡ count) ⊎ (k ≢ count) → k < count
    go (inl same) = absurd (taken (ap (place_at from) same ∙ empty))
    go (inr apart) = omega arith

-- the number of the next slot is not known yet
front-apart : (from : List Slot) (count : ℕ) → IsProbed from → place_at from count ≢ 4294967295 → (k : ℕ) → k < count → place_at from k ≢ 4294967295 → number_at from k ≢ number_at from count
front-apart from count probed taken k low there same =
    let ends : k ≡ count = sym (probed k there) ∙ ap (probe_end from) same ∙ probed count taken in
    absurd (omega arith)

pub front-absent : (from : List Slot) (found : ℕ → Option ℕ) (count : ℕ) → IsProbed from → place_at from count ≢ 4294967295 → HasFront from found count → found (number_at from count) ≡ None
front-absent from found count probed taken front = front.others (number_at from count) (front-apart from count probed taken)

-- and then it is
pub front-more : (from : List Slot) (found more : ℕ → Option ℕ) (count : ℕ) → IsProbed from → place_at from count ≢ 4294967295 → HasFront from found count → ((m : ℕ) → more m ≡ with_place found (number_at from count) (place_at from count) m) → HasFront from more (count + 1)
front-more from found more count probed taken front told = record {
  known = known;
  others = λ n lacks. told n ∙ ap (λ b. cond b (Some (place_at from count)) (found n)) (ne_eqb n (number_at from count) (λ e. lacks count (omega arith) taken (sym e))) ∙ front.others n (λ k low there. lacks k (omega arith) there);
} where
  known : (k : ℕ) → k < count + 1 → place_at from k ≢ 4294967295 → more (number_at from k) ≡ Some (place_at from k)
  known k low there = go (cases_eq k count) where
    go : (k ≡ count) ⊎ (k ≢ count) → more (number_at from k) ≡ Some (place_at from k)
    go (inl same) =
        told (number_at from k)
        ∙ ap (λ b. cond b (Some (place_at from count)) (found (number_at from k))) (eq-eqb (number_at from k) (number_at from count) (ap (number_at from) same))
        ∙ ap (λ (j : ℕ). Some (place_at from j)) (sym same)
    go (inr apart) =
        let below : k < count = omega arith in
        told (number_at from k)
        ∙ ap (λ b. cond b (Some (place_at from count)) (found (number_at from k))) (ne_eqb (number_at from k) (number_at from count) (front-apart from count probed taken k below there))
        ∙ front.known k below there

-- with all slots the same is told as by them
pub front-all : (from : List Slot) (found : ℕ → Option ℕ) → IsProbed from → HasFront from found (length from) → (n : ℕ) → found n ≡ placed_in_slots from n
front-all from found probed front n = go (cases_eq (place_at from (probe_end from n)) 4294967295) where
  go : (place_at from (probe_end from n) ≡ 4294967295) ⊎ (place_at from (probe_end from n) ≢ 4294967295) → found n ≡ placed_in_slots from n
  go (inl empty) =
      front.others n (λ k low taken same. taken (ap (place_at from) (sym (probed k taken) ∙ ap (probe_end from) same) ∙ empty))
      ∙ sym (place-empty (place_at from (probe_end from n)) empty)
  go (inr taken) =
      let at = probe_end from n in
      ap found (sym (probe-holds from n taken)) ∙ front.known at (within-taken from at taken) taken ∙ sym (place-told (place_at from at) taken)

-- slots that are all empty
pub empty-none : (slots : List Slot) → ((k : ℕ) → place_at slots k ≡ 4294967295) → (n : ℕ) → placed_in_slots slots n ≡ None
empty-none slots empty n = place-empty (place_at slots (probe_end slots n)) (empty (probe_end slots n))

pub empty-probed : (slots : List Slot) → ((k : ℕ) → place_at slots k ≡ 4294967295) → IsProbed slots
empty-probed slots empty k taken = absurd (taken (empty k))

pub empty-near : (slots : List Slot) → ((k : ℕ) → place_at slots k ≡ 4294967295) → IsNear slots
empty-near slots empty k taken = absurd (taken (empty k))
