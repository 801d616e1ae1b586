-- Probes that look at a bounded number of slots, and the map of the numbers that find none.
use Rattle.std.proofs.Common.{◌≡◌, ◌≢◌, ℕ, ◌+◌, ◌-◌, ◌<◌, ◌≤◌, ◌==◌, List, [], ◌∷◌, Option, refl, length, drop, get_or, Some, None, cond, sym, ap, ◌∙◌, subst, arith, ◌⊎◌, inl, inr}
use Rattle.std.specs.BTreeMap.{BTreeMap, IsUnchanged, Updates, get, is_at}
use Rattle.std.specs.Cmp.{eq_by_cmp_equiv, nat_cmp_total}
use Rattle.std.specs.List.{position_or_len}
use Rattle.std.specs.List.Sorted.{IsStrictlySortedBy}
use Rattle.std.specs.Map.{keys_of, lookup}
use Rattle.std.specs.Option.{option_or, unwrap_or}
use Rattle.std.specs.Ordering.{nat_cmp}
use Rattle.std.specs.Prelude.{Err, IfOk, IsSome, Ok, OnErr, OnOk}
use Rattle.std.specs.declared.result.Result.{Result}
use Rattle.std.proofs.lemmas.List.{get_or-drop}
use Rattle.std.proofs.lemmas.List.Sums.{fails_before_first}
use Rattle.std.proofs.lemmas.Bool.{cases_eq, eq-eqb, ne_eqb}
use Rattle.std.proofs.lemmas.Bool.Decides.{nat_tests}
use Rattle.std.proofs.lemmas.Map.{lookup-none}
use Rattle.std.proofs.lemmas.Map.Entries.{none_past_head}
use Rattle.std.proofs.lemmas.Map.Keys.{IsDistinct-from_sorted, sorted_tail}
use Rattle.fst_table.specs.declared.flat_table.Slot.{Slot}
use Rattle.fst_table.specs.Slots.{IsNear, IsOverflow, MeetsNoEmpty, Overflows, empty_slot, ends_probe, first_slot, place_at, placed_among, placed_in_slots, probe_end, probed_slot, window_end, with_place}
use Rattle.fst_table.proofs.Slots.{ends-empty, place-empty, probe-holds}

-- A probe that looks at no more slots than its limit.
module _ (xs : List Slot) (n : ℕ) where
  pub ends-within : probed_slot xs n < length xs → (probed_slot xs n ≡ probe_end xs n) × (probe_end xs n < window_end xs n)
  ends-within within = (grind (arith, nat_tests), grind (arith, nat_tests))

  pub ends-past : length xs ≤ probed_slot xs n → window_end xs n ≤ probe_end xs n
  ends-past past = grind (arith, nat_tests)

  -- where it meets no empty slot, the number is in no slot
  pub past-none : IsNear xs → length xs ≤ probed_slot xs n → placed_in_slots xs n ≡ None
  past-none near past = go (cases_eq (place_at xs (probe_end xs n)) 4294967295) where
    go : (place_at xs (probe_end xs n) ≡ 4294967295) ⊎ (place_at xs (probe_end xs n) ≢ 4294967295) → placed_in_slots xs n ≡ None
    go (inl empty) = place-empty (place_at xs (probe_end xs n)) empty
    go (inr taken) = absurd (let low = subst (λ (m : ℕ). probe_end xs n < window_end xs m) (probe-holds xs n taken) (near (probe_end xs n) taken) in let high = ends-past past in omega arith)

  pub past-full : length xs ≤ probed_slot xs n → MeetsNoEmpty xs n
  past-full past k from low empty =
      let first = first_slot (length xs) n in
      let high = ends-past past in
      let fails = fails_before_first (ends_probe n) (drop first xs) (k - first) empty_slot (omega arith) in
      let at : first + (k - first) ≡ k = omega arith in
      let read = get_or-drop first xs (k - first) empty_slot ∙ ap (λ (j : ℕ). get_or xs j empty_slot) at in
      absurd (let ends = ap (ends_probe n) read ∙ ends-empty n (get_or xs k empty_slot) empty in cc)

  pub past_told : (overflow : BTreeMap ℕ ℕ) → IsNear xs → length xs ≤ probed_slot xs n → placed_among xs overflow n ≡ get nat_cmp overflow n
  past_told overflow near past = ap (λ o. option_or o (get nat_cmp overflow n)) (past-none near past)

-- A number whose first slot is empty is not known.
module _ (xs : List Slot) (n : ℕ) (within : first_slot (length xs) n < length xs) (empty : place_at xs (first_slot (length xs) n) ≡ 4294967295) where
  -- its probe ends there
  ends-first : probe_end xs n ≡ first_slot (length xs) n
  ends-first = go (cases_eq (position_or_len (ends_probe n) (drop first xs)) 0) where
    first : ℕ
    first = first_slot (length xs) n

    go : (position_or_len (ends_probe n) (drop first xs) ≡ 0) ⊎ (position_or_len (ends_probe n) (drop first xs) ≢ 0) → probe_end xs n ≡ first
    go (inl none) = omega (arith, none)
    go (inr some) =
        let fails = fails_before_first (ends_probe n) (drop first xs) 0 empty_slot (omega (arith, some)) in
        let at : first + 0 ≡ first = omega arith in
        let read = get_or-drop first xs 0 empty_slot ∙ ap (λ (j : ℕ). get_or xs j empty_slot) at in
        absurd (let ends = ap (ends_probe n) read ∙ ends-empty n (get_or xs first empty_slot) empty in cc)

  first-none : (overflow : BTreeMap ℕ ℕ) → IsOverflow xs overflow → placed_among xs overflow n ≡ None
  first-none overflow overflows = ap (λ o. option_or o (get nat_cmp overflow n)) (place-empty (place_at xs (probe_end xs n)) (ap (place_at xs) ends-first ∙ empty)) ∙ go (get nat_cmp overflow n) refl where
    go : (o : Option ℕ) → get nat_cmp overflow n ≡ o → get nat_cmp overflow n ≡ None
    go None is = is
    go (Some p) is = absurd ((overflows n p is).0 (first_slot (length xs) n) (omega arith) (omega (arith, within)) empty)

-- and so are all that begin at an empty slot
pub first_told : (xs : List Slot) (overflow : BTreeMap ℕ ℕ) (k : ℕ) → IsOverflow xs overflow → k < length xs → place_at xs k ≡ 4294967295 → (n : ℕ) → first_slot (length xs) n ≡ k → placed_among xs overflow n ≡ None
first_told xs overflow k overflows within empty n first = first-none xs n (subst (λ (j : ℕ). j < length xs) (sym first) within) (ap (place_at xs) first ∙ empty) overflow overflows

-- A number whose probe meets no empty slot is written in the map.
module _ (xs : List Slot) (overflow more : BTreeMap ℕ ℕ) (n p : ℕ) (small : p < 4294967295) (near : IsNear xs) (past : length xs ≤ probed_slot xs n) (told : (m : ℕ) → get nat_cmp more m ≡ with_place (get nat_cmp overflow) n p m) where
  pub map-overflow : IsOverflow xs overflow → IsOverflow xs more
  map-overflow overflows m q is = go (cases_eq m n) where
    go : (m ≡ n) ⊎ (m ≢ n) → Overflows xs m q
    go (inl same) =
        let at = told m ∙ ap (λ b. cond b (Some p) (get nat_cmp overflow m)) (eq-eqb m n same) in
        let place : Some p ≡ Some q = sym at ∙ is in
        (subst (MeetsNoEmpty xs) (sym same) (past-full xs n past), ap (placed_in_slots xs) same ∙ past-none xs n near past, subst (λ (r : ℕ). r < 4294967295) (ap (λ (o : Option ℕ). unwrap_or o 0) place) small)
    go (inr apart) = overflows m q (sym (told m ∙ ap (λ b. cond b (Some p) (get nat_cmp overflow m)) (ne_eqb m n apart)) ∙ is)

-- the order of numbers finds a number where it is
at-number : (n m : ℕ) → is_at (nat_cmp n) m ≡ (m == n)
at-number n m = grind (arith, nat_tests)

-- what a write to the map leaves at a number, and what it leaves where memory runs out
told-in-map : (overflow more : BTreeMap ℕ ℕ) (n p : ℕ) → Updates nat_cmp overflow more n (Some p) → (m : ℕ) → get nat_cmp more m ≡ with_place (get nat_cmp overflow) n p m
told-in-map overflow more n p updates m = updates.0 m ∙ ap (λ b. cond b (Some p) (get nat_cmp overflow m)) (at-number n m)

pub insert-overflow : {A B : Type 0} (r : Result A B) (xs : List Slot) (overflow more : BTreeMap ℕ ℕ) (n p : ℕ) → p < 4294967295 → IsNear xs → length xs ≤ probed_slot xs n → OnOk r (Updates nat_cmp overflow more n (Some p)) → OnErr r (IsUnchanged overflow more) → IsOverflow xs overflow → IsOverflow xs more
insert-overflow (Ok _) xs overflow more n p small near past ok _ = map-overflow xs overflow more n p small near past (told-in-map overflow more n p ok)
insert-overflow (Err _) xs overflow more n p small near past _ err = λ overflows m q is. overflows m q (ap (lookup (is_at (nat_cmp m))) (sym err) ∙ is)

-- a map that tells the same
same-overflow : (xs : List Slot) (overflow more : BTreeMap ℕ ℕ) → ((m : ℕ) → get nat_cmp more m ≡ get nat_cmp overflow m) → IsOverflow xs overflow → IsOverflow xs more
same-overflow xs overflow more told overflows m q is = overflows m q (sym (told m) ∙ is)

-- and where a number is looked up in it, and written if it is not there
pub found-overflow : {E : Type 0} (r : Result (Option ℕ) E) (xs : List Slot) (overflow more : BTreeMap ℕ ℕ) (n p : ℕ) → p < 4294967295 → IsNear xs → length xs ≤ probed_slot xs n → IfOk r (λ o. IsSome o → (m : ℕ) → get nat_cmp more m ≡ get nat_cmp overflow m)
    → IfOk r (λ o. o ≡ None → (m : ℕ) → get nat_cmp more m ≡ with_place (get nat_cmp overflow) n p m) → OnErr r ((m : ℕ) → get nat_cmp more m ≡ get nat_cmp overflow m) → IsOverflow xs overflow → IsOverflow xs more
found-overflow (Ok None) xs overflow more n p small near past known added err = map-overflow xs overflow more n p small near past (added refl)
found-overflow (Ok (Some q)) xs overflow more n p small near past known added err = same-overflow xs overflow more (known refl)
found-overflow (Err e) xs overflow more n p small near past known added err = same-overflow xs overflow more err

-- a number that is not known is in no slot, and not in the map
pub absent-both : (a b : Option ℕ) → option_or a b ≡ None → (a ≡ None) × (b ≡ None)
absent-both None b none = (refl, none)
absent-both (Some x) b none = absurd cc

-- The numbers that are left of a map are not known yet, and with them the same is known as in the end.
pub record HasRest (found whole : ℕ → Option ℕ) (rest : List (ℕ × ℕ)) : Type 0 where
  pub ordered : IsStrictlySortedBy nat_cmp (keys_of rest)
  pub left : (n p : ℕ) → lookup (is_at (nat_cmp n)) rest ≡ Some p → (found n ≡ None) × (p < 4294967295)
  pub same : (n : ℕ) → option_or (found n) (lookup (is_at (nat_cmp n)) rest) ≡ whole n

-- the first one
finds-itself : (n p : ℕ) (rest : List (ℕ × ℕ)) → lookup (is_at (nat_cmp n)) ((n, p) ∷ rest) ≡ Some p
finds-itself n p rest = ap (λ b. cond b (Some p) (lookup (is_at (nat_cmp n)) rest)) (at-number n n ∙ eq-eqb n n refl)

pub rest-first : (found whole : ℕ → Option ℕ) (n p : ℕ) (all rest : List (ℕ × ℕ)) → all ≡ (n, p) ∷ rest → HasRest found whole all → (found n ≡ None) × (p < 4294967295)
rest-first found whole n p all rest is has = has.left n p (ap (lookup (is_at (nat_cmp n))) is ∙ finds-itself n p rest)

-- and without it
pub rest-less : (found more whole : ℕ → Option ℕ) (n p : ℕ) (all rest : List (ℕ × ℕ)) → all ≡ (n, p) ∷ rest → ((m : ℕ) → more m ≡ with_place found n p m) → HasRest found whole all → HasRest more whole rest
rest-less found more whole n p all rest is told has-all = record {
  ordered = sorted_tail nat_cmp n (keys_of rest) has.ordered;
  left = λ m q is. (told m ∙ ap (λ b. cond b (Some p) (found m)) (ne_eqb m n (apart m q is)) ∙ (has.left m q (later m (apart m q is) ∙ is)).0, (has.left m q (later m (apart m q is) ∙ is)).1);
  same = λ m. ap (λ o. option_or o (lookup (is_at (nat_cmp m)) rest)) (told m) ∙ go m (cases_eq m n) ∙ has.same m;
} where
  has : HasRest found whole ((n, p) ∷ rest)
  has = subst (HasRest found whole) is has-all

  later : (m : ℕ) → m ≢ n → lookup (is_at (nat_cmp m)) ((n, p) ∷ rest) ≡ lookup (is_at (nat_cmp m)) rest
  later m apart = ap (λ b. cond b (Some p) (lookup (is_at (nat_cmp m)) rest)) (at-number m n ∙ ne_eqb n m (λ e. apart (sym e)))

  no-more : lookup (is_at (nat_cmp n)) rest ≡ None
  no-more = lookup-none (is_at (nat_cmp n)) rest (none_past_head (eq_by_cmp_equiv nat_cmp_total) n (n, p) rest (IsDistinct-from_sorted nat_cmp (keys_of ((n, p) ∷ rest)) has.ordered) (at-number n n ∙ eq-eqb n n refl))

  apart : (m q : ℕ) → lookup (is_at (nat_cmp m)) rest ≡ Some q → m ≢ n
  apart m q is same = absurd (let none = ap (λ (k : ℕ). lookup (is_at (nat_cmp k)) rest) same ∙ no-more in cc)

  go : (m : ℕ) → (m ≡ n) ⊎ (m ≢ n) → option_or (with_place found n p m) (lookup (is_at (nat_cmp m)) rest) ≡ option_or (found m) (lookup (is_at (nat_cmp m)) ((n, p) ∷ rest))
  go m (inl same) =
      ap (λ b. option_or (cond b (Some p) (found m)) (lookup (is_at (nat_cmp m)) rest)) (eq-eqb m n same)
      ∙ sym (ap (λ o. option_or o (lookup (is_at (nat_cmp m)) ((n, p) ∷ rest))) (ap found same ∙ (has.left n p (finds-itself n p rest)).0) ∙ ap (λ (k : ℕ). lookup (is_at (nat_cmp k)) ((n, p) ∷ rest)) same ∙ finds-itself n p rest)
  go m (inr apart) =
      ap (λ b. option_or (cond b (Some p) (found m)) (lookup (is_at (nat_cmp m)) rest)) (ne_eqb m n apart)
      ∙ ap (option_or (found m)) (sym (later m apart))

-- and in the end none
or-none : (o : Option ℕ) → option_or o None ≡ o
or-none None = refl
or-none (Some x) = refl

pub rest-none : (found whole : ℕ → Option ℕ) → HasRest found whole [] → (n : ℕ) → found n ≡ whole n
rest-none found whole has n = sym (or-none (found n)) ∙ has.same n
