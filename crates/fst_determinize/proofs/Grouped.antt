-- What is made of the elements with one key, key by key: it depends on what stands in the list, and not on its order.
use Rattle.std.proofs.Common.{◌≡◌, ◌≢◌, ◌⊎◌, inl, inr, ℕ, ◌<◌, eqb, List, [], ◌∷◌, ◌++◌, map, refl, sym, ap, ap₂, ◌∙◌, subst, append-nil, arith}
use Rattle.std.proofs.lemmas.Bool.{cases_eq, cond-true, cond-false, eq-eqb, ne_eqb}
use Rattle.fst_machine.specs.BreadthFirst.{Has}
use Rattle.fst_machine.proofs.Elements.{Has-append_cases, Has-append_right}
use Rattle.fst_determinize.specs.Subsets.{AscendsBy}
use Rattle.fst_determinize.specs.Ways.{ascending, grouped, having}
use Rattle.fst_determinize.proofs.Elements.{Alike, Has_map, map_Has, map_agree, map_alike}
use Rattle.fst_determinize.proofs.Ascending.{Has_ascending, ascending_Has, ascending_alike, ascending_ascends, ascending_same, map_ascends}

module _ {X : Type 0} (key : X → ℕ) where
  having_yes : (k : ℕ) (x : X) (xs : List X) → key x ≡ k → having key k (x ∷ xs) ≡ x ∷ having key k xs
  having_yes k x xs e = cond-true (eqb (key x) k) (x ∷ having key k xs) (having key k xs) (eq-eqb (key x) k e)

  having_no : (k : ℕ) (x : X) (xs : List X) → key x ≢ k → having key k (x ∷ xs) ≡ having key k xs
  having_no k x xs e = cond-false (eqb (key x) k) (x ∷ having key k xs) (having key k xs) (ne_eqb (key x) k e)

  pub having_Has : (k : ℕ) (xs : List X) (x : X) → Has (having key k xs) x → Has xs x × (key x ≡ k)
  having_Has k [] x h = absurd h
  having_Has k (z ∷ xs) x h = by_key (cases_eq (key z) k) h (having_Has k xs x)
    where
      by_part : key z ≡ k → Has (z ∷ having key k xs) x → (Has (having key k xs) x → Has xs x × (key x ≡ k)) → Has (z ∷ xs) x × (key x ≡ k)
      by_part e (inl f) rest = (inl f, sym (ap key f) ∙ e)
      by_part e (inr more) rest = let r = rest more in (inr r.0, r.1)

      by_key : (key z ≡ k) ⊎ (key z ≡ k → ⊥) → Has (having key k (z ∷ xs)) x → (Has (having key k xs) x → Has xs x × (key x ≡ k)) → Has (z ∷ xs) x × (key x ≡ k)
      by_key (inl e) h rest = by_part e (subst (λ ys. Has ys x) (having_yes k z xs e) h) rest
      by_key (inr other) h rest = let r = rest (subst (λ ys. Has ys x) (having_no k z xs other) h) in (inr r.0, r.1)

  pub Has_having : (k : ℕ) (xs : List X) (x : X) → Has xs x → key x ≡ k → Has (having key k xs) x
  Has_having k [] x h e = absurd h
  Has_having k (z ∷ xs) x h e = by_key (cases_eq (key z) k) h (λ more. Has_having k xs x more e)
    where
      by_key : (key z ≡ k) ⊎ (key z ≡ k → ⊥) → Has (z ∷ xs) x → (Has xs x → Has (having key k xs) x) → Has (having key k (z ∷ xs)) x
      by_key (inl f) (inl same) rest = subst (λ ys. Has ys x) (sym (having_yes k z xs f)) (inl same)
      by_key (inl f) (inr more) rest = subst (λ ys. Has ys x) (sym (having_yes k z xs f)) (inr (rest more))
      by_key (inr other) (inl same) rest = absurd (other (ap key same ∙ e))
      by_key (inr other) (inr more) rest = subst (λ ys. Has ys x) (sym (having_no k z xs other)) (rest more)

  having-append : (k : ℕ) (xs ys : List X) → having key k (xs ++ ys) ≡ having key k xs ++ having key k ys
  having-append k [] ys = refl
  having-append k (x ∷ xs) ys = by_key (cases_eq (key x) k) (having-append k xs ys)
    where
      by_key : (key x ≡ k) ⊎ (key x ≡ k → ⊥) → having key k (xs ++ ys) ≡ having key k xs ++ having key k ys → having key k (x ∷ (xs ++ ys)) ≡ having key k (x ∷ xs) ++ having key k ys
      by_key (inl e) rest = having_yes k x (xs ++ ys) e ∙ (ap (λ zs. x ∷ zs) rest ∙ sym (ap (λ zs. zs ++ having key k ys) (having_yes k x xs e)))
      by_key (inr other) rest = having_no k x (xs ++ ys) other ∙ (rest ∙ sym (ap (λ zs. zs ++ having key k ys) (having_no k x xs other)))

  pub having_all : (k : ℕ) (xs : List X) → ((x : X) → Has xs x → key x ≡ k) → having key k xs ≡ xs
  having_all k [] all = refl
  having_all k (x ∷ xs) all = having_yes k x xs (all x (inl refl)) ∙ ap (λ zs. x ∷ zs) (having_all k xs (λ z h. all z (inr h)))

  pub having_none : (k : ℕ) (xs : List X) → ((x : X) → Has xs x → key x ≢ k) → having key k xs ≡ []
  having_none k [] none = refl
  having_none k (x ∷ xs) none = having_no k x xs (none x (inl refl)) ∙ having_none k xs (λ z h. none z (inr h))

  pub having_alike : (k : ℕ) (xs ys : List X) → Alike xs ys → Alike (having key k xs) (having key k ys)
  having_alike k xs ys h = record {
    there = λ x i. let from = having_Has k xs x i in Has_having k ys x (h.there x from.0) from.1;
    back = λ x i. let from = having_Has k ys x i in Has_having k xs x (h.back x from.0) from.1;
  }

module _ {X A : Type 0} (key : X → ℕ) (make : ℕ → List X → A) where
  pub grouped_Has : (xs : List X) (a : A) → Has (grouped key make xs) a → (x : X) × Has xs x × (make (key x) (having key (key x) xs) ≡ a)
  grouped_Has xs a h =
      let one = map_Has (λ k. make k (having key k xs)) (ascending (map key xs)) a h in
      let two = map_Has key xs one.0 (ascending_Has (map key xs) one.0 one.1) in
      (two.0, two.1, ap (λ (k : ℕ). make k (having key k xs)) two.2 ∙ one.2)

  pub Has_grouped : (xs : List X) (x : X) → Has xs x → Has (grouped key make xs) (make (key x) (having key (key x) xs))
  Has_grouped xs x h = Has_map (λ k. make k (having key k xs)) (ascending (map key xs)) (key x) (Has_ascending (map key xs) (key x) (Has_map key xs x h))

  pub grouped_ascends : (tag : A → ℕ) → ((k : ℕ) (zs : List X) → tag (make k zs) ≡ k) → (xs : List X) → AscendsBy tag (grouped key make xs)
  grouped_ascends tag same xs = map_ascends tag (λ k. make k (having key k xs)) (λ k. same k (having key k xs)) (ascending (map key xs)) (ascending_ascends (map key xs))

  -- the order of the list makes no difference, if it makes none to what is made of the elements with one key
  pub grouped_alike : ((k : ℕ) (us vs : List X) → Alike us vs → make k us ≡ make k vs) → (xs ys : List X) → Alike xs ys → grouped key make xs ≡ grouped key make ys
  grouped_alike same xs ys h =
      map_agree (λ k. make k (having key k xs)) (λ k. make k (having key k ys)) (ascending (map key xs)) (λ k i. same k (having key k xs) (having key k ys) (having_alike key k xs ys h))
      ∙ ap (map (λ k. make k (having key k ys))) (ascending_alike (map key xs) (map key ys) (map_alike key xs ys h))

  -- a run of elements with one key, and then some with greater keys
  pub grouped_split : (k : ℕ) (x : X) (run rest : List X) → ((z : X) → Has (x ∷ run) z → key z ≡ k) → ((z : X) → Has rest z → k < key z)
      → grouped key make ((x ∷ run) ++ rest) ≡ make k (x ∷ run) ∷ grouped key make rest
  grouped_split k x run rest here later =
      ap (map (λ j. make j (having key j ((x ∷ run) ++ rest)))) keys ∙ ap₂ (◌∷◌) (ap (make k) own) (map_agree (λ j. make j (having key j ((x ∷ run) ++ rest))) (λ j. make j (having key j rest)) (ascending (map key rest)) (λ j h. ap (make j) (others j (ascending_Has (map key rest) j h))))
    where
      above : (j : ℕ) → Has (map key rest) j → k < j
      above j h = let from = map_Has key rest j h in let low = later from.0 from.1 in let e = from.2 in omega (arith, low, e)

      none : (z : X) → Has rest z → key z ≢ k
      none z h = let low = later z h in λ e. omega (arith, low, e)

      own : having key k ((x ∷ run) ++ rest) ≡ x ∷ run
      own = having-append key k (x ∷ run) rest ∙ (ap₂ (◌++◌) (having_all key k (x ∷ run) here) (having_none key k rest none) ∙ append-nil (x ∷ run))

      others : (j : ℕ) → Has (map key rest) j → having key j ((x ∷ run) ++ rest) ≡ having key j rest
      others j h =
          let low = above j h in
          having-append key j (x ∷ run) rest ∙ ap (λ zs. zs ++ having key j rest) (having_none key j (x ∷ run) (λ z i. let e = here z i in λ f. omega (arith, low, e, f)))

      up : AscendsBy (λ j. j) (k ∷ ascending (map key rest))
      up = ((λ j h. above j (ascending_Has (map key rest) j h)), ascending_ascends (map key rest))

      to : (j : ℕ) → Has (map key ((x ∷ run) ++ rest)) j → Has (k ∷ ascending (map key rest)) j
      to j h = let from = map_Has key ((x ∷ run) ++ rest) j h in by_part from.0 (Has-append_cases (x ∷ run) rest from.0 from.1) from.2
        where
          by_part : (z : X) → Has (x ∷ run) z ⊎ Has rest z → key z ≡ j → Has (k ∷ ascending (map key rest)) j
          by_part z (inl h) e = inl (sym (here z h) ∙ e)
          by_part z (inr h) e = inr (subst (λ i. Has (ascending (map key rest)) i) e (Has_ascending (map key rest) (key z) (Has_map key rest z h)))

      back : (j : ℕ) → Has (k ∷ ascending (map key rest)) j → Has (map key ((x ∷ run) ++ rest)) j
      back j (inl e) = inl (here x (inl refl) ∙ e)
      back j (inr h) = let from = map_Has key rest j (ascending_Has (map key rest) j h) in subst (λ i. Has (map key ((x ∷ run) ++ rest)) i) from.2 (Has_map key ((x ∷ run) ++ rest) from.0 (Has-append_right (x ∷ run) rest from.0 from.1))

      keys : ascending (map key ((x ∷ run) ++ rest)) ≡ k ∷ ascending (map key rest)
      keys = ascending_same (λ j. j) (ascending (map key ((x ∷ run) ++ rest))) (k ∷ ascending (map key rest)) (ascending_ascends (map key ((x ∷ run) ++ rest))) up (record {
        there = λ j h. to j (ascending_Has (map key ((x ∷ run) ++ rest)) j h);
        back = λ j h. Has_ascending (map key ((x ∷ run) ++ rest)) j (back j h);
      })
