-- Lists that ascend by a key. Such lists with the same elements are equal, from which each uniqueness comes.
use Rattle.std.proofs.Common.{◌≡◌, ◌⊎◌, inl, inr, ℕ, ◌<◌, cond, eqb, ltb, List, [], ◌∷◌, map, refl, sym, ap, ap₂, ◌∙◌, subst, arith}
use Rattle.std.proofs.lemmas.Bool.{cases_order, cond-true, cond-false, eq-eqb, ne_eqb, lt-ltb, le-ltb}
use Rattle.fst_machine.specs.BreadthFirst.{Has}
use Rattle.fst_determinize.specs.Subsets.{AscendsBy}
use Rattle.fst_determinize.specs.Ways.{ascending, put_number}
use Rattle.fst_determinize.proofs.Elements.{Alike, map_Has}

-- where a number is put
put_below : (n m : ℕ) (ms : List ℕ) → n < m → put_number n (m ∷ ms) ≡ n ∷ m ∷ ms
put_below n m ms low = cond-true (ltb n m) (n ∷ m ∷ ms) (cond (eqb n m) (m ∷ ms) (m ∷ put_number n ms)) (lt-ltb n m low)

put_equal : (n m : ℕ) (ms : List ℕ) → n ≡ m → put_number n (m ∷ ms) ≡ m ∷ ms
put_equal n m ms e =
    cond-false (ltb n m) (n ∷ m ∷ ms) (cond (eqb n m) (m ∷ ms) (m ∷ put_number n ms)) (le-ltb n m (omega (arith, e))) ∙ cond-true (eqb n m) (m ∷ ms) (m ∷ put_number n ms) (eq-eqb n m e)

put_above : (n m : ℕ) (ms : List ℕ) → m < n → put_number n (m ∷ ms) ≡ m ∷ put_number n ms
put_above n m ms high =
    cond-false (ltb n m) (n ∷ m ∷ ms) (cond (eqb n m) (m ∷ ms) (m ∷ put_number n ms)) (le-ltb n m (omega arith)) ∙ cond-false (eqb n m) (m ∷ ms) (m ∷ put_number n ms) (ne_eqb n m (λ e. omega arith))

put_Has : (n : ℕ) (ms : List ℕ) (k : ℕ) → Has (put_number n ms) k → (n ≡ k) ⊎ Has ms k
put_Has n [] k (inl e) = inl e
put_Has n [] k (inr none) = absurd none
put_Has n (m ∷ ms) k h = by_order (cases_order n m) h (put_Has n ms k)
  where
    by_part : (n ≡ k) ⊎ Has ms k → (n ≡ k) ⊎ Has (m ∷ ms) k
    by_part (inl e) = inl e
    by_part (inr more) = inr (inr more)

    by_rest : Has (m ∷ put_number n ms) k → (Has (put_number n ms) k → (n ≡ k) ⊎ Has ms k) → (n ≡ k) ⊎ Has (m ∷ ms) k
    by_rest (inl e) rest = inr (inl e)
    by_rest (inr more) rest = by_part (rest more)

    by_order : (n ≡ m) ⊎ ((n < m) ⊎ (m < n)) → Has (put_number n (m ∷ ms)) k → (Has (put_number n ms) k → (n ≡ k) ⊎ Has ms k) → (n ≡ k) ⊎ Has (m ∷ ms) k
    by_order (inl e) h rest = inr (subst (λ xs. Has xs k) (put_equal n m ms e) h)
    by_order (inr (inl low)) h rest = subst (λ xs. Has xs k) (put_below n m ms low) h
    by_order (inr (inr high)) h rest = by_rest (subst (λ xs. Has xs k) (put_above n m ms high) h) rest

Has_put : (n : ℕ) (ms : List ℕ) (k : ℕ) → (n ≡ k) ⊎ Has ms k → Has (put_number n ms) k
Has_put n [] k (inl e) = inl e
Has_put n [] k (inr none) = absurd none
Has_put n (m ∷ ms) k h = by_order (cases_order n m) h (Has_put n ms k)
  where
    by_order : (n ≡ m) ⊎ ((n < m) ⊎ (m < n)) → (n ≡ k) ⊎ Has (m ∷ ms) k → ((n ≡ k) ⊎ Has ms k → Has (put_number n ms) k) → Has (put_number n (m ∷ ms)) k
    by_order (inl e) (inl f) rest = subst (λ xs. Has xs k) (sym (put_equal n m ms e)) (inl (sym e ∙ f))
    by_order (inl e) (inr h) rest = subst (λ xs. Has xs k) (sym (put_equal n m ms e)) h
    by_order (inr (inl low)) h rest = subst (λ xs. Has xs k) (sym (put_below n m ms low)) h
    by_order (inr (inr high)) (inl f) rest = subst (λ xs. Has xs k) (sym (put_above n m ms high)) (inr (rest (inl f)))
    by_order (inr (inr high)) (inr (inl e)) rest = subst (λ xs. Has xs k) (sym (put_above n m ms high)) (inl e)
    by_order (inr (inr high)) (inr (inr h)) rest = subst (λ xs. Has xs k) (sym (put_above n m ms high)) (inr (rest (inr h)))

put_ascends : (n : ℕ) (ms : List ℕ) → AscendsBy (λ k. k) ms → AscendsBy (λ k. k) (put_number n ms)
put_ascends n [] up = ((λ y none. absurd none), tt)
put_ascends n (m ∷ ms) up = by_order (cases_order n m) (put_ascends n ms up.1)
  where
    first : (y : ℕ) → n < m → Has (m ∷ ms) y → n < y
    first y low (inl e) = omega (arith, e, low)
    first y low (inr h) = let more = up.0 y h in omega (arith, more, low)

    later : (y : ℕ) → m < n → (n ≡ y) ⊎ Has ms y → m < y
    later y high (inl e) = omega (arith, e, high)
    later y high (inr h) = up.0 y h

    by_order : (n ≡ m) ⊎ ((n < m) ⊎ (m < n)) → AscendsBy (λ k. k) (put_number n ms) → AscendsBy (λ k. k) (put_number n (m ∷ ms))
    by_order (inl e) rest = subst (λ (xs : List ℕ). AscendsBy (λ k. k) xs) (sym (put_equal n m ms e)) up
    by_order (inr (inl low)) rest = subst (λ (xs : List ℕ). AscendsBy (λ k. k) xs) (sym (put_below n m ms low)) ((λ y h. first y low h), up)
    by_order (inr (inr high)) rest = subst (λ (xs : List ℕ). AscendsBy (λ k. k) xs) (sym (put_above n m ms high)) ((λ y h. later y high (put_Has n ms y h)), rest)

pub ascending_Has : (ns : List ℕ) (k : ℕ) → Has (ascending ns) k → Has ns k
ascending_Has [] k h = absurd h
ascending_Has (n ∷ ns) k h = by_part (put_Has n (ascending ns) k h) (ascending_Has ns k)
  where
    by_part : (n ≡ k) ⊎ Has (ascending ns) k → (Has (ascending ns) k → Has ns k) → Has (n ∷ ns) k
    by_part (inl e) rest = inl e
    by_part (inr more) rest = inr (rest more)

pub Has_ascending : (ns : List ℕ) (k : ℕ) → Has ns k → Has (ascending ns) k
Has_ascending [] k h = absurd h
Has_ascending (n ∷ ns) k (inl e) = Has_put n (ascending ns) k (inl e)
Has_ascending (n ∷ ns) k (inr h) = Has_put n (ascending ns) k (inr (Has_ascending ns k h))

pub ascending_ascends : (ns : List ℕ) → AscendsBy (λ k. k) (ascending ns)
ascending_ascends [] = tt
ascending_ascends (n ∷ ns) = put_ascends n (ascending ns) (ascending_ascends ns)

-- what is made of ascending numbers ascends by a key that gives these back
pub map_ascends : {A : Type 0} (tag : A → ℕ) (make : ℕ → A) → ((k : ℕ) → tag (make k) ≡ k) → (ks : List ℕ) → AscendsBy (λ k. k) ks → AscendsBy tag (map make ks)
map_ascends tag make same [] up = tt
map_ascends {A} tag make same (k ∷ ks) up = ((λ y h. later y (map_Has make ks y h)), map_ascends tag make same ks up.1)
  where
    later : (y : A) → (j : ℕ) × Has ks j × (make j ≡ y) → tag (make k) < tag y
    later y from =
        let less = up.0 from.0 from.1 in
        let one : tag (make k) ≡ k = same k in
        let two : tag y ≡ from.0 = sym (ap tag from.2) ∙ same from.0 in
        omega (arith, less, one, two)

-- ascending lists with the same elements are equal
pub ascending_same : {X : Type 0} (key : X → ℕ) (xs ys : List X) → AscendsBy key xs → AscendsBy key ys → Alike xs ys → xs ≡ ys
ascending_same key [] [] up vp alike = refl
ascending_same key [] (y ∷ ys) up vp alike = absurd (alike.back y (inl refl))
ascending_same key (x ∷ xs) [] up vp alike = absurd (alike.there x (inl refl))
ascending_same {X} key (x ∷ xs) (y ∷ ys) up vp alike =
    let e : x ≡ y = heads (alike.there x (inl refl)) (alike.back y (inl refl)) in
    ap₂ (◌∷◌) e (ascending_same key xs ys up.1 vp.1 (record {
      there = λ z h. tail_there z h e (alike.there z (inr h));
      back = λ z h. tail_back z h e (alike.back z (inr h));
    }))
  where
    heads : Has (y ∷ ys) x → Has (x ∷ xs) y → x ≡ y
    heads (inl e) h = sym e
    heads (inr h) (inl e) = e
    heads (inr h) (inr k) = absurd (let one = vp.0 x h in let two = up.0 y k in omega (arith, one, two))

    tail_there : (z : X) → Has xs z → x ≡ y → Has (y ∷ ys) z → Has ys z
    tail_there z h e (inl f) = absurd (let less = up.0 z h in let same : key x ≡ key z = ap key (e ∙ f) in omega (arith, less, same))
    tail_there z h e (inr k) = k

    tail_back : (z : X) → Has ys z → x ≡ y → Has (x ∷ xs) z → Has xs z
    tail_back z h e (inl f) = absurd (let less = vp.0 z h in let same : key y ≡ key z = ap key (sym e ∙ f) in omega (arith, less, same))
    tail_back z h e (inr k) = k

-- numbers of lists with the same elements
pub ascending_alike : (ms ns : List ℕ) → Alike ms ns → ascending ms ≡ ascending ns
ascending_alike ms ns alike = ascending_same (λ k. k) (ascending ms) (ascending ns) (ascending_ascends ms) (ascending_ascends ns) (record {
  there = λ k h. Has_ascending ns k (alike.there k (ascending_Has ms k h));
  back = λ k h. Has_ascending ms k (alike.back k (ascending_Has ns k h));
})
