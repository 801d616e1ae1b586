-- Routes, place by place.
use Rattle.std.proofs.Common.{◌≡◌, ◌⊎◌, inl, inr, ℕ, ◌+◌, ◌<◌, ◌≤◌, zero, suc, Bool, true, false, List, [], ◌∷◌, Some, length, map, drop, take, get_or, slice_get, refl, sym, ap, ap₂, ◌∙◌, min, arith}
use Rattle.std.proofs.Common.{Ordering, Less, Equal, Greater}
use Rattle.std.specs.Prelude.{nat_lt}
use Rattle.std.specs.Ordering.{nat_cmp, ordering_then, is_lt}
use Rattle.std.specs.Cmp.Lexicographic.{slice_cmp}
use Rattle.std.proofs.lemmas.Bool.{cases_lt, lt-ltb, ltb-true}
use Rattle.std.proofs.lemmas.List.{drop_more, get_or-take, length-drop, length-take-le}
use Rattle.std.proofs.lemmas.Option.{get_or_from_slice_get}
use Rattle.fst_nbest.specs.declared.entry.Entry.{Entry}
use Rattle.fst_nbest.specs.Families.{route}
use Rattle.fst_nbest.specs.Entries.{CanCompare, list_at, move_of, prefix_of, route_of}
use Rattle.fst_nbest.proofs.Ranks.{nat_cases, nat_same}

lt_true : (x y : ℕ) → x < y → nat_lt x y ≡ true
lt_true x y low = lt-ltb x y low

lt_false : (x y : ℕ) → y ≤ x → nat_lt x y ≡ false
lt_false x y low = by (nat_lt x y) refl
  where
    by : (b : Bool) → nat_lt x y ≡ b → nat_lt x y ≡ false
    by true e = let h = ltb-true x y e in absurd (omega (arith, h, low))
    by false e = e

ends : (xs ys : List ℕ) (m n c : ℕ) → length xs + c ≡ m → length ys + c ≡ n → (length xs ≡ 0) ⊎ (length ys ≡ 0) → nat_lt m n ≡ is_lt (slice_cmp nat_cmp xs ys)
ends [] [] m n c one two at = lt_false m n (omega (arith, one, two))
ends [] (y ∷ ys) m n c one two at = lt_true m n (omega (arith, one, two))
ends (x ∷ xs) [] m n c one two at = lt_false m n (omega (arith, one, two))
ends (x ∷ xs) (y ∷ ys) m n c one two (inl e) = absurd (omega (arith, e))
ends (x ∷ xs) (y ∷ ys) m n c one two (inr e) = absurd (omega (arith, e))

route-length : (p : List ℕ) (m : ℕ) → length (route p m) ≡ length p + 1
route-length [] m = refl
route-length (k ∷ p) m = let rest = route-length p m in omega (arith, rest)

route_within : (p : List ℕ) (m k : ℕ) → k < length p → get_or (route p m) k 0 ≡ get_or p k 0 + 1
route_within [] m k low = absurd (omega (arith, low))
route_within (j ∷ p) m zero low = omega arith
route_within (j ∷ p) m (suc k) low = route_within p m k (omega (arith, low))

route_end : (p : List ℕ) (m k : ℕ) → k ≡ length p → get_or (route p m) k 0 ≡ m
route_end [] m zero e = refl
route_end [] m (suc k) e = absurd (omega (arith, e))
route_end (j ∷ p) m zero e = absurd (omega (arith, e))
route_end (j ∷ p) m (suc k) e = route_end p m k (omega (arith, e))

-- routes that begin in the same way compare by what stands behind it
rest_same : (n : ℕ) (xs ys : List ℕ) → take n xs ≡ take n ys → n ≤ length xs → n ≤ length ys → slice_cmp nat_cmp xs ys ≡ slice_cmp nat_cmp (drop n xs) (drop n ys)
rest_same zero xs ys same one two = refl
rest_same (suc n) [] ys same one two = absurd (omega (arith, one))
rest_same (suc n) (x ∷ xs) [] same one two = absurd (omega (arith, two))
rest_same (suc n) (x ∷ xs) (y ∷ ys) same one two =
    let head : x ≡ y = cc in
    let tail : take n xs ≡ take n ys = cc in
    ap (λ (o : Ordering). ordering_then o (slice_cmp nat_cmp xs ys)) (ap (λ (z : ℕ). nat_cmp z y) head ∙ nat_same y) ∙ rest_same n xs ys tail (omega (arith, one)) (omega (arith, two))

take_route : (n d : ℕ) (w : List ℕ) (m : ℕ) → n ≤ d → d ≤ length w → take n (route (take d w) m) ≡ map suc (take n w)
take_route zero d w m low long = refl
take_route (suc n) zero w m low long = absurd (omega (arith, low))
take_route (suc n) (suc d) [] m low long = absurd (omega (arith, long))
take_route (suc n) (suc d) (k ∷ w) m low long = ap (λ (l : List ℕ). suc k ∷ l) (take_route n d w m (omega (arith, low)) (omega (arith, long)))

module _ {D : Type 0} (words orders : List (List ℕ)) where
  prefix-length : (e : Entry D) → CanCompare words orders e → length (prefix_of words e) ≡ e.depth
  prefix-length e h = length-take-le e.depth (list_at words e.path) h.depth

  pub route_of-length : (e : Entry D) → CanCompare words orders e → length (route_of words orders e) ≡ e.depth + 1
  route_of-length e h = let one = route-length (prefix_of words e) (move_of orders e) in omega (arith, one, prefix-length e h)

  pub turn_within : (e : Entry D) (k : ℕ) (word : List ℕ) (x : ℕ) → CanCompare words orders e → k < e.depth → slice_get words e.path ≡ Some word → slice_get word k ≡ Some x → x + 1 ≡ get_or (route_of words orders e) k 0
  turn_within e k word x h low there here =
      let whole : list_at words e.path ≡ word = get_or_from_slice_get words e.path word [] there in
      let at : get_or (prefix_of words e) k 0 ≡ x = get_or-take e.depth (list_at words e.path) k 0 low ∙ (ap (λ (l : List ℕ). get_or l k 0) whole ∙ get_or_from_slice_get word k x 0 here) in
      let on = route_within (prefix_of words e) (move_of orders e) k (omega (arith, low, prefix-length e h)) in
      omega (arith, at, on)

  pub turn_end : (e : Entry D) (k : ℕ) (moves : List ℕ) → CanCompare words orders e → k ≤ e.depth → e.depth ≤ k → moves ≡ list_at orders e.name → get_or moves e.rank 0 ≡ get_or (route_of words orders e) k 0
  turn_end e k moves h low high same = ap (λ (l : List ℕ). get_or l e.rank 0) same ∙ sym (route_end (prefix_of words e) (move_of orders e) k (omega (arith, low, high, prefix-length e h)))

  -- routes from a place on
  pub routes_begin : (a b : Entry D) (n : ℕ) → CanCompare words orders a → CanCompare words orders b → a.path ≡ b.path → n ≤ a.depth → n ≤ b.depth
      → slice_cmp nat_cmp (route_of words orders a) (route_of words orders b) ≡ slice_cmp nat_cmp (drop n (route_of words orders a)) (drop n (route_of words orders b))
  routes_begin a b n can_a can_b same one two =
      rest_same n (route_of words orders a) (route_of words orders b)
      (take_route n a.depth (list_at words a.path) (move_of orders a) one can_a.depth ∙ (ap (λ (p : ℕ). map suc (take n (list_at words p))) same ∙ sym (take_route n b.depth (list_at words b.path) (move_of orders b) two can_b.depth)))
      (omega (arith, route_of-length a can_a, one)) (omega (arith, route_of-length b can_b, two))

  routes_at : (a b : Entry D) (k : ℕ) → CanCompare words orders a → CanCompare words orders b → k ≤ a.depth → k ≤ b.depth
      → slice_cmp nat_cmp (drop k (route_of words orders a)) (drop k (route_of words orders b)) ≡ ordering_then (nat_cmp (get_or (route_of words orders a) k 0) (get_or (route_of words orders b) k 0)) (slice_cmp nat_cmp (drop (k + 1) (route_of words orders a)) (drop (k + 1) (route_of words orders b)))
  routes_at a b k can_a can_b one two =
      ap₂ (slice_cmp nat_cmp) (drop_more (route_of words orders a) k 0 (omega (arith, route_of-length a can_a, one))) (drop_more (route_of words orders b) k 0 (omega (arith, route_of-length b can_b, two)))

  pub routes_on : (a b : Entry D) (k x y : ℕ) → CanCompare words orders a → CanCompare words orders b → k ≤ a.depth → k ≤ b.depth → x ≡ get_or (route_of words orders a) k 0 → y ≡ get_or (route_of words orders b) k 0 → x ≡ y
      → slice_cmp nat_cmp (drop k (route_of words orders a)) (drop k (route_of words orders b)) ≡ slice_cmp nat_cmp (drop (k + 1) (route_of words orders a)) (drop (k + 1) (route_of words orders b))
  routes_on a b k x y can_a can_b one two is_x is_y same =
      routes_at a b k can_a can_b one two
      ∙ ap (λ (o : Ordering). ordering_then o (slice_cmp nat_cmp (drop (k + 1) (route_of words orders a)) (drop (k + 1) (route_of words orders b))))
      (ap (λ (z : ℕ). nat_cmp z (get_or (route_of words orders b) k 0)) (sym is_x ∙ (same ∙ is_y)) ∙ nat_same (get_or (route_of words orders b) k 0))

  pub routes_differ : (a b : Entry D) (k x y : ℕ) → CanCompare words orders a → CanCompare words orders b → k ≤ a.depth → k ≤ b.depth → x ≡ get_or (route_of words orders a) k 0 → y ≡ get_or (route_of words orders b) k 0 → (x ≡ y → ⊥)
      → nat_lt x y ≡ is_lt (slice_cmp nat_cmp (drop k (route_of words orders a)) (drop k (route_of words orders b)))
  routes_differ a b k x y can_a can_b one two is_x is_y other =
      differ (nat_cases x y) ∙ ap is_lt (ap₂ (λ (z u : ℕ). ordering_then (nat_cmp z u) (slice_cmp nat_cmp (drop (k + 1) (route_of words orders a)) (drop (k + 1) (route_of words orders b)))) is_x is_y ∙ sym (routes_at a b k can_a can_b one two))
    where
      differ : ((x < y) × (nat_cmp x y ≡ Less)) ⊎ (((x ≡ y) × (nat_cmp x y ≡ Equal)) ⊎ ((y < x) × (nat_cmp x y ≡ Greater))) → nat_lt x y ≡ is_lt (ordering_then (nat_cmp x y) (slice_cmp nat_cmp (drop (k + 1) (route_of words orders a)) (drop (k + 1) (route_of words orders b))))
      differ (inl r) = lt_true x y r.0 ∙ ap (λ (o : Ordering). is_lt (ordering_then o (slice_cmp nat_cmp (drop (k + 1) (route_of words orders a)) (drop (k + 1) (route_of words orders b))))) (sym r.1)
      differ (inr (inl r)) = absurd (other r.0)
      differ (inr (inr r)) = lt_false x y (omega (arith, r.0)) ∙ ap (λ (o : Ordering). is_lt (ordering_then o (slice_cmp nat_cmp (drop (k + 1) (route_of words orders a)) (drop (k + 1) (route_of words orders b))))) (sym r.1)

  -- where one route is at its end
  pub routes_end : (a b : Entry D) (k : ℕ) → CanCompare words orders a → CanCompare words orders b → (k ≡ a.depth) ⊎ (k ≡ b.depth) → k ≤ a.depth → k ≤ b.depth
      → nat_lt a.depth b.depth ≡ is_lt (slice_cmp nat_cmp (drop (k + 1) (route_of words orders a)) (drop (k + 1) (route_of words orders b)))
  routes_end a b k can_a can_b at one two =
      ends (drop (k + 1) (route_of words orders a)) (drop (k + 1) (route_of words orders b)) a.depth b.depth k
      (omega (arith, length-drop (k + 1) (route_of words orders a), route_of-length a can_a, one)) (omega (arith, length-drop (k + 1) (route_of words orders b), route_of-length b can_b, two)) (by at)
    where
      by : (k ≡ a.depth) ⊎ (k ≡ b.depth) → (length (drop (k + 1) (route_of words orders a)) ≡ 0) ⊎ (length (drop (k + 1) (route_of words orders b)) ≡ 0)
      by (inl e) = inl (omega (arith, length-drop (k + 1) (route_of words orders a), route_of-length a can_a, e))
      by (inr e) = inr (omega (arith, length-drop (k + 1) (route_of words orders b), route_of-length b can_b, e))

  pub routes_from : (a b : Entry D) (n : ℕ) → CanCompare words orders a → CanCompare words orders b → (a.path ≡ b.path) ⊎ (n ≡ 0) → n ≤ a.depth → n ≤ b.depth
      → slice_cmp nat_cmp (route_of words orders a) (route_of words orders b) ≡ slice_cmp nat_cmp (drop n (route_of words orders a)) (drop n (route_of words orders b))
  routes_from a b n can_a can_b (inl same) one two = routes_begin a b n can_a can_b same one two
  routes_from a b n can_a can_b (inr none) one two = sym (ap (λ (j : ℕ). slice_cmp nat_cmp (drop j (route_of words orders a)) (drop j (route_of words orders b))) none)

pub least_is : (n a b : ℕ) → n ≡ min a b → (n ≡ a) ⊎ (n ≡ b)
least_is n a b is = by (cases_lt a b)
  where
    by : (a < b) ⊎ (b ≤ a) → (n ≡ a) ⊎ (n ≡ b)
    by (inl low) = inl (omega (arith, low, is))
    by (inr high) = inr (omega (arith, high, is))
