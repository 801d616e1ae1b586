-- The prefixes of entries, label by label.
use Rattle.std.proofs.Common.{◌≡◌, ◌⊎◌, inl, inr, ℕ, ◌+◌, ◌<◌, ◌≤◌, zero, suc, Bool, true, false, List, [], ◌∷◌, ◌++◌, length, drop, take, get_or, refl, sym, ap, ap₂, ◌∙◌, arith}
use Rattle.std.proofs.Common.{Ordering, Less, Equal, Greater}
use Rattle.std.specs.Prelude.{nat_lt}
use Rattle.std.specs.Ordering.{nat_cmp, ordering_then, is_lt}
use Rattle.std.specs.Cmp.Lexicographic.{slice_cmp}
use Rattle.std.proofs.lemmas.Bool.{lt-ltb, ltb-true}
use Rattle.std.proofs.lemmas.List.{drop_more, length-append, length-drop, length-take-le, take-append-drop, take-append-le}
use Rattle.fst_nbest.specs.Entries.{list_at}
use Rattle.fst_nbest.proofs.Covering.{slice_behind}
use Rattle.fst_nbest.proofs.Ranks.{nat_cases, nat_same}
use Rattle.fst_select.specs.declared.entry.Entry.{Entry}
use Rattle.fst_select.specs.Entries.{CanCompare, prefix_of, tail_of}

-- a test of numbers, from what holds of them
lt_true : (x y : ℕ) → x < y → nat_lt x y ≡ true
lt_true x y low = lt-ltb x y low

lt_false : (x y : ℕ) → y ≤ x → nat_lt x y ≡ false
lt_false x y low = by (nat_lt x y) refl
  where
    by : (b : Bool) → nat_lt x y ≡ b → nat_lt x y ≡ false
    by true e = let h = ltb-true x y e in absurd (omega (arith, h, low))
    by false e = e

module _ {D : Type 0} (words : List (List ℕ)) (e : Entry D) (can : CanCompare words e) where
  begin_long : length (take e.depth (list_at words e.owner)) ≡ e.depth
  begin_long = length-take-le e.depth (list_at words e.owner) can.depth

  -- it has at most one label more than those of the listed string
  pub prefix_long : length (prefix_of words e) ≡ e.depth + length (tail_of e.tail)
  prefix_long = let one = length-append (take e.depth (list_at words e.owner)) (tail_of e.tail) in omega (arith, one, begin_long)

  pub prefix_few : length (prefix_of words e) ≤ e.depth + 1
  prefix_few = by e.tail prefix_long
    where
      by : (label : ℕ) → length (prefix_of words e) ≡ e.depth + length (tail_of label) → length (prefix_of words e) ≤ e.depth + 1
      by zero h = omega (arith, h)
      by (suc label) h = omega (arith, h)

-- lists that begin in the same way compare by what stands behind it
lists_behind : (n : ℕ) (xs ys : List ℕ) → take n xs ≡ take n ys → slice_cmp nat_cmp xs ys ≡ slice_cmp nat_cmp (drop n xs) (drop n ys)
lists_behind n xs ys same =
    ap₂ (slice_cmp nat_cmp) (sym (take-append-drop n xs)) (sym (take-append-drop n ys) ∙ ap (λ (l : List ℕ). l ++ drop n ys) (sym same))
    ∙ slice_behind (take n xs) (drop n xs) (drop n ys)

module _ (xs ys : List ℕ) (k x y : ℕ) (one : k < length xs) (two : k < length ys) (is_x : x ≡ get_or xs k 0) (is_y : y ≡ get_or ys k 0) where
  lists_at : slice_cmp nat_cmp (drop k xs) (drop k ys) ≡ ordering_then (nat_cmp x y) (slice_cmp nat_cmp (drop (k + 1) xs) (drop (k + 1) ys))
  lists_at = ap₂ (slice_cmp nat_cmp) (drop_more xs k 0 one) (drop_more ys k 0 two)
      ∙ ap₂ (λ (a b : ℕ). ordering_then (nat_cmp a b) (slice_cmp nat_cmp (drop (k + 1) xs) (drop (k + 1) ys))) (sym is_x) (sym is_y)

  -- a place in which they are the same, and one in which they differ
  pub lists_on : x ≡ y → slice_cmp nat_cmp (drop k xs) (drop k ys) ≡ slice_cmp nat_cmp (drop (k + 1) xs) (drop (k + 1) ys)
  lists_on same = lists_at ∙ ap (λ (o : Ordering). ordering_then o (slice_cmp nat_cmp (drop (k + 1) xs) (drop (k + 1) ys))) (ap (nat_cmp x) (sym same) ∙ nat_same x)

  pub lists_differ : (x ≡ y → ⊥) → nat_lt x y ≡ is_lt (slice_cmp nat_cmp (drop k xs) (drop k ys))
  lists_differ other = by (nat_cases x y) ∙ ap is_lt (sym lists_at)
    where
      by : ((x < y) × (nat_cmp x y ≡ Less)) ⊎ (((x ≡ y) × (nat_cmp x y ≡ Equal)) ⊎ ((y < x) × (nat_cmp x y ≡ Greater)))
          → nat_lt x y ≡ is_lt (ordering_then (nat_cmp x y) (slice_cmp nat_cmp (drop (k + 1) xs) (drop (k + 1) ys)))
      by (inl r) = lt_true x y r.0 ∙ ap (λ (o : Ordering). is_lt (ordering_then o (slice_cmp nat_cmp (drop (k + 1) xs) (drop (k + 1) ys)))) (sym r.1)
      by (inr (inl r)) = absurd (other r.0)
      by (inr (inr r)) = lt_false x y (omega (arith, r.0)) ∙ ap (λ (o : Ordering). is_lt (ordering_then o (slice_cmp nat_cmp (drop (k + 1) xs) (drop (k + 1) ys)))) (sym r.1)

-- where one of them is at its end
pub lists_end : (xs ys : List ℕ) (m n k : ℕ) → m ≡ length xs → n ≡ length ys → k ≤ m → k ≤ n → (k ≡ m) ⊎ (k ≡ n) → nat_lt m n ≡ is_lt (slice_cmp nat_cmp (drop k xs) (drop k ys))
lists_end xs ys m n k one two low_m low_n at =
    by (drop k xs) (drop k ys) (omega (arith, length-drop k xs, one, low_m)) (omega (arith, length-drop k ys, two, low_n)) at
  where
    by : (us vs : List ℕ) → length us + k ≡ m → length vs + k ≡ n → (k ≡ m) ⊎ (k ≡ n) → nat_lt m n ≡ is_lt (slice_cmp nat_cmp us vs)
    by [] [] p q h = lt_false m n (omega (arith, p, q))
    by [] (v ∷ vs) p q h = lt_true m n (omega (arith, p, q))
    by (u ∷ us) [] p q h = lt_false m n (omega (arith, p, q))
    by (u ∷ us) (v ∷ vs) p q (inl e) = absurd (omega (arith, p, e))
    by (u ∷ us) (v ∷ vs) p q (inr e) = absurd (omega (arith, q, e))

-- prefixes that begin as one listed string
pub prefixes_begin : {D : Type 0} (words : List (List ℕ)) (a b : Entry D) (n : ℕ) → CanCompare words a → CanCompare words b → (a.owner ≡ b.owner) ⊎ (n ≡ 0) → n ≤ a.depth → n ≤ b.depth
    → slice_cmp nat_cmp (prefix_of words a) (prefix_of words b) ≡ slice_cmp nat_cmp (drop n (prefix_of words a)) (drop n (prefix_of words b))
prefixes_begin words a b n can_a can_b (inr none) one two = lists_behind n (prefix_of words a) (prefix_of words b) (ap (λ (j : ℕ). take j (prefix_of words a)) none
    ∙ ap (λ (j : ℕ). take j (prefix_of words b)) (sym none))
prefixes_begin {D} words a b n can_a can_b (inl same) one two = lists_behind n (prefix_of words a) (prefix_of words b) (first a can_a one
    ∙ (ap (λ (i : ℕ). take n (list_at words i)) same ∙ sym (first b can_b two)))
  where
    shorter : (m d : ℕ) (xs : List ℕ) → m ≤ d → take m (take d xs) ≡ take m xs
    shorter zero d xs low = refl
    shorter (suc m) zero xs low = absurd (omega (arith, low))
    shorter (suc m) (suc d) [] low = refl
    shorter (suc m) (suc d) (x ∷ xs) low = ap (λ (l : List ℕ). x ∷ l) (shorter m d xs (omega (arith, low)))

    first : (e : Entry D) → CanCompare words e → n ≤ e.depth → take n (prefix_of words e) ≡ take n (list_at words e.owner)
    first e can low =
        let long : length (take e.depth (list_at words e.owner)) ≡ e.depth = length-take-le e.depth (list_at words e.owner) can.depth in
        take-append-le n (take e.depth (list_at words e.owner)) (tail_of e.tail) (omega (arith, long, low)) ∙ shorter n e.depth (list_at words e.owner) low
