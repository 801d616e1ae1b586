-- Arcs are put beside what makes them alike.
use Rattle.std.proofs.Common.{◌≡◌, ℕ, ◌+◌, ◌≤◌, ◌&&◌, ◌||◌, Bool, true, false, true≢false, cond, if◌then◌else◌, zero, suc, List, [], ◌∷◌, ◌++◌, Option, None, Some, ◌⊎◌, inl, inr, eqb, eqb-true, eq-eqb, length, map, set, get_or, slice_get, take, refl, sym, ap, ◌∙◌, subst, arith}
use Rattle.std.specs.Prelude.{not}
use Rattle.std.specs.List.{list_any, position_or_len}
use Rattle.std.proofs.lemmas.Bool.{and_from, and_parts, cases_Bool}
use Rattle.fst_keys.specs.Keys.{with_key}
use Rattle.std.proofs.lemmas.List.{length-map, map-append, take_all}
use Rattle.std.proofs.lemmas.List.Folds.{list_any-append}
use Rattle.std.proofs.lemmas.Option.{same_Some, slice_get_within}
use Rattle.fst_semiring.specs.Cost.{Cost, plus}
use Rattle.fst_machine.specs.BreadthFirst.{Apart, Has}
use Rattle.fst_machine.specs.Machine.{Arc, valued_arc}
use Rattle.fst_machine.proofs.Arcs.{at_mapped}
use Rattle.fst_machine.proofs.Elements.{Apart-push, Has-any, at_Has}
use Rattle.fst_machine.proofs.Narrowing.{taken}
use Rattle.fst_epsilon.specs.Construction.{is_alike, put_arc}
use Rattle.fst_epsilon.specs.Merging.{AreMarked, ArePaired, Betters, HasNoKey, IsFirstWithKey, key_decides, key_of, same_key, spot_of}
use Rattle.fst_epsilon.specs.declared.merged.ArcKey.{ArcKey}

-- two tests that say yes to the same say the same
same_test : (s t : Bool) → (s ≡ true → t ≡ true) → (t ≡ true → s ≡ true) → s ≡ t
same_test true t there back = sym (there refl)
same_test false true there back = back refl
same_test false false there back = refl

three : (a b c : Bool) → (a && (b && c)) ≡ true → (a ≡ true) × (b ≡ true) × (c ≡ true)
three a b c e = let one = and_parts a (b && c) e in let two = and_parts b c one.1 in (one.0, two.0, two.1)

three_from : (a b c : Bool) → a ≡ true → b ≡ true → c ≡ true → (a && (b && c)) ≡ true
three_from a b c one two last = and_from a (b && c) one (and_from b c two last)

turned : (m n : ℕ) → eqb m n ≡ true → eqb n m ≡ true
turned m n e = eq-eqb n m (sym (eqb-true m n e))

module _ {V : Type 0} (value : V → Cost) (b : Arc V ℕ) where
  like : (a : Arc V ℕ) → same_key (key_of b) (key_of a) ≡ is_alike (valued_arc value a) (valued_arc value b)
  like a = same_test _ _
      (λ e. let p = three _ _ _ e in three_from _ _ _ (turned b.ilabel a.ilabel p.0) (turned b.olabel a.olabel p.1) (turned b.next a.next p.2))
      (λ e. let p = three _ _ _ e in three_from _ _ _ (turned a.ilabel b.ilabel p.0) (turned a.olabel b.olabel p.1) (turned a.next b.next p.2))

  abbrev Put : List (Arc V ℕ) → List (Arc Cost ℕ)
  Put arcs = put_arc (map (valued_arc value) arcs) (valued_arc value b)

  abbrev met : List (Arc V ℕ) → Bool
  met arcs = list_any (same_key (key_of b)) (map key_of arcs)

  -- one that is like none of them stands after the others
  pub put_new : (arcs : List (Arc V ℕ)) → met arcs ≡ false → Put arcs ≡ map (valued_arc value) (arcs ++ b ∷ [])
  put_new [] e = refl
  put_new (a ∷ arcs) e = by (same_key (key_of b) (key_of a)) (like a) e (put_new arcs)
    where
      by : (t : Bool) → t ≡ is_alike (valued_arc value a) (valued_arc value b) → (t || met arcs) ≡ false → (met arcs ≡ false → Put arcs ≡ map (valued_arc value) (arcs ++ b ∷ [])) → Put (a ∷ arcs) ≡ map (valued_arc value) (a ∷ (arcs ++ b ∷ []))
      by true same e rest = absurd (true≢false e)
      by false same e rest = ap (λ (t : Bool). cond t (record (valued_arc value a) { weight = plus (value a.weight) (value b.weight) } ∷ map (valued_arc value) arcs) (valued_arc value a ∷ Put arcs)) (sym same)
          ∙ ap (λ (zs : List (Arc Cost ℕ)). valued_arc value a ∷ zs) (rest e)

  -- where the spot of its key is not marked, it is like none of those whose spots are
  pub none_marked : (spots : List Bool) (arcs : List (Arc V ℕ)) → AreMarked spots arcs → get_or spots (spot_of (key_of b)) false ≡ false → met arcs ≡ false
  none_marked spots [] marked unmarked = refl
  none_marked spots (a ∷ arcs) marked unmarked = by (cases_Bool (same_key (key_of b) (key_of a))) (none_marked spots arcs (λ k d low. marked (suc k) d (omega arith)) unmarked)
    where
      by : (same_key (key_of b) (key_of a) ≡ true) ⊎ (same_key (key_of b) (key_of a) ≡ false) → met arcs ≡ false → met (a ∷ arcs) ≡ false
      by (inl e) rest =
          let p = three _ _ _ e in
          let one : b.ilabel ≡ a.ilabel = eqb-true b.ilabel a.ilabel p.0 in
          let two : b.olabel ≡ a.olabel = eqb-true b.olabel a.olabel p.1 in
          let last : b.next ≡ a.next = eqb-true b.next a.next p.2 in
          let same : key_of b ≡ key_of a = rw (one, two, last) refl in
          absurd (true≢false (sym (marked 0 a (omega arith)) ∙ (ap (λ (k : ArcKey). get_or spots (spot_of k) false) (sym same) ∙ unmarked)))
      by (inr e) rest = ap (λ (t : Bool). t || met arcs) e ∙ rest

  abbrev found : List (Arc V ℕ) → ℕ
  found arcs = position_or_len (same_key (key_of b)) (map key_of arcs)

  abbrev Better : Arc V ℕ → Arc V ℕ → List (Arc V ℕ) → ℕ → Type 0
  Better d c arcs place = valued_arc value c ≡ record (valued_arc value (get_or arcs place d)) { weight = plus (value (get_or arcs place d).weight) (value b.weight) }

  -- else the first that it is like has the better weight
  pub put_old : (arcs : List (Arc V ℕ)) (place : ℕ) (d c : Arc V ℕ) → met arcs ≡ true → place ≡ found arcs → Better d c arcs place → Put arcs ≡ map (valued_arc value) (set arcs place c)
  put_old [] place d c e at is = absurd (true≢false (sym e))
  put_old (a ∷ arcs) place d c e at is = by (same_key (key_of b) (key_of a)) (like a) e at (λ known. put_old arcs (found arcs) d c known refl)
    where
      by : (t : Bool) → t ≡ is_alike (valued_arc value a) (valued_arc value b) → (t || met arcs) ≡ true → place ≡ cond (not t) (1 + found arcs) 0
          → (met arcs ≡ true → Better d c arcs (found arcs) → Put arcs ≡ map (valued_arc value) (set arcs (found arcs) c)) → Put (a ∷ arcs) ≡ map (valued_arc value) (set (a ∷ arcs) place c)
      by true same e at rest =
          let here : Better d c (a ∷ arcs) 0 = subst (Better d c (a ∷ arcs)) at is in
          ap (λ (t : Bool). cond t (record (valued_arc value a) { weight = plus (value a.weight) (value b.weight) } ∷ map (valued_arc value) arcs) (valued_arc value a ∷ Put arcs)) (sym same)
          ∙ (ap (λ (z : Arc Cost ℕ). z ∷ map (valued_arc value) arcs) (sym here) ∙ ap (λ (k : ℕ). map (valued_arc value) (set (a ∷ arcs) k c)) (sym at))
      by false same e at rest =
          let on : place ≡ suc (found arcs) = omega (arith, at) in
          let later : Better d c (a ∷ arcs) (suc (found arcs)) = subst (Better d c (a ∷ arcs)) on is in
          ap (λ (t : Bool). cond t (record (valued_arc value a) { weight = plus (value a.weight) (value b.weight) } ∷ map (valued_arc value) arcs) (valued_arc value a ∷ Put arcs)) (sym same)
          ∙ (ap (λ (zs : List (Arc Cost ℕ)). valued_arc value a ∷ zs) (rest e later) ∙ ap (λ (k : ℕ). map (valued_arc value) (set (a ∷ arcs) k c)) (sym on))

  -- the keys stay those of the arcs, each once
  pub paired_new : (keys new : List ArcKey) (arcs : List (Arc V ℕ)) → ArePaired keys arcs → list_any (same_key (key_of b)) keys ≡ false → new ≡ with_key same_key keys (key_of b) → ArePaired new (arcs ++ b ∷ [])
  paired_new keys new arcs paired e put =
      let more : new ≡ keys ++ key_of b ∷ [] = put ∙ ap (λ (t : Bool). if t then keys else keys ++ key_of b ∷ []) e in (
        more ∙ (ap (λ (ks : List ArcKey). ks ++ key_of b ∷ []) paired.0 ∙ sym (map-append key_of arcs (b ∷ []))),
        subst Apart (sym more) (Apart-push keys (key_of b) paired.1 (λ h. true≢false (sym (Has-any same_key key_decides keys (key_of b) h) ∙ e))),
      )

  -- one that was there changes none
  pub kept_keys : (keys new : List ArcKey) → list_any (same_key (key_of b)) keys ≡ true → new ≡ with_key same_key keys (key_of b) → new ≡ keys
  kept_keys keys new e put = put ∙ ap (λ (t : Bool). if t then keys else keys ++ key_of b ∷ []) e

  pub paired_old : (keys new : List ArcKey) (arcs : List (Arc V ℕ)) (place : ℕ) (d c : Arc V ℕ) → ArePaired keys arcs → new ≡ keys → key_of c ≡ key_of (get_or arcs place d) → ArePaired new (set arcs place c)
  paired_old keys new arcs place d c paired same is = (same ∙ (paired.0 ∙ sym (kept arcs place is)), subst Apart (sym same) paired.1)
    where
      kept : (zs : List (Arc V ℕ)) (k : ℕ) → key_of c ≡ key_of (get_or zs k d) → map key_of (set zs k c) ≡ map key_of zs
      kept [] k is = refl
      kept (z ∷ zs) zero is = ap (λ (x : ArcKey). x ∷ map key_of zs) is
      kept (z ∷ zs) (suc k) is = ap (λ (xs : List ArcKey). key_of z ∷ xs) (kept zs k is)

  -- an arc with the key of another and the better weight
  pub bettered : (a c : Arc V ℕ) → key_of c ≡ key_of a → value c.weight ≡ plus (value a.weight) (value b.weight) → valued_arc value c ≡ record (valued_arc value a) { weight = plus (value a.weight) (value b.weight) }
  bettered a c same weight i = record { ilabel = (same i).ilabel; olabel = (same i).olabel; weight = weight i; next = (same i).next }

  -- the first that it is like is made better
  pub put_better : (arcs new : List (Arc V ℕ)) (place : ℕ) (other : Cost) → other ≡ value b.weight → met arcs ≡ true → place ≡ found arcs → Betters value place other arcs new → Put arcs ≡ map (valued_arc value) new
  put_better arcs new place other is e at one =
      put_old arcs place one.arc one.arc e at (bettered (get_or arcs place one.arc) one.arc one.same (one.weight ∙ ap (plus (value (get_or arcs place one.arc).weight)) is))
      ∙ ap (map (valued_arc value)) (sym one.items)

-- ---- the first arc with a key, looked for from the front

module _ (key : ArcKey) where
  -- one more that has another key
  pub none_more : {V : Type 0} (arcs : List (Arc V ℕ)) (i : ℕ) (a : Arc V ℕ) → slice_get arcs i ≡ Some a → same_key key (key_of a) ≡ false
      → list_any (same_key key) (take i (map key_of arcs)) ≡ false → list_any (same_key key) (take (i + 1) (map key_of arcs)) ≡ false
  none_more arcs i a there other none =
      ap (list_any (same_key key)) (taken key_of arcs i a there)
      ∙ (list_any-append (same_key key) (take i (map key_of arcs)) (key_of a ∷ [])
      ∙ (ap (λ (t : Bool). t || list_any (same_key key) (key_of a ∷ [])) none ∙ ap (λ (t : Bool). t || false) other))

  first_found : (keys : List ArcKey) (i : ℕ) (k : ArcKey) → slice_get keys i ≡ Some k → same_key key k ≡ true → list_any (same_key key) (take i keys) ≡ false
      → (list_any (same_key key) keys ≡ true) × (i ≡ position_or_len (same_key key) keys)
  first_found [] i k there hit none = absurd (let wrong : ◌≡◌ {A = Option ArcKey} None (Some k) = there in cc)
  first_found (z ∷ keys) zero k there hit none =
      let here : same_key key z ≡ true = ap (same_key key) (same_Some z k there) ∙ hit in
      (ap (λ (t : Bool). t || list_any (same_key key) keys) here, sym (ap (λ (t : Bool). cond (not t) (1 + position_or_len (same_key key) keys) 0) here))
  first_found (z ∷ keys) (suc i) k there hit none = by (same_key key z) none (first_found keys i k there hit)
    where
      by : (t : Bool) → (t || list_any (same_key key) (take i keys)) ≡ false
          → (list_any (same_key key) (take i keys) ≡ false → (list_any (same_key key) keys ≡ true) × (i ≡ position_or_len (same_key key) keys))
          → ((t || list_any (same_key key) keys) ≡ true) × (suc i ≡ cond (not t) (1 + position_or_len (same_key key) keys) 0)
      by true e rest = absurd (true≢false e)
      by false e rest = let r = rest e in (r.0, (let at = r.1 in omega (arith, at)))

  pub found_here : {V : Type 0} (arcs : List (Arc V ℕ)) (i : ℕ) (a : Arc V ℕ) → slice_get arcs i ≡ Some a → same_key key (key_of a) ≡ true
      → list_any (same_key key) (take i (map key_of arcs)) ≡ false → IsFirstWithKey key arcs i
  found_here arcs i a there hit none =
      let first = first_found (map key_of arcs) i (key_of a) (at_mapped key_of arcs i a there) hit none in
      record { low = slice_get_within arcs i a there; met = first.0; first = first.1 }

  -- where keys stand once each, the key in a place is the first like it
  pub once_found : (keys : List ArcKey) (i : ℕ) → Apart keys → slice_get keys i ≡ Some key → i ≡ position_or_len (same_key key) keys
  once_found [] i apart there = absurd (let wrong : ◌≡◌ {A = Option ArcKey} None (Some key) = there in cc)
  once_found (z ∷ keys) zero apart there = sym (ap (λ (t : Bool). cond (not t) (1 + position_or_len (same_key key) keys) 0) ((key_decides key z).1 (sym (same_Some z key there))))
  once_found (z ∷ keys) (suc i) apart there = by (same_key key z) refl (once_found keys i apart.1 there)
    where
      by : (t : Bool) → same_key key z ≡ t → i ≡ position_or_len (same_key key) keys → suc i ≡ cond (not t) (1 + position_or_len (same_key key) keys) 0
      by true e rest = absurd (apart.0 (subst (Has keys) ((key_decides key z).0 e) (at_Has keys i key there)))
      by false e rest = omega (arith, rest)

  -- none of all
  pub all_none : {V : Type 0} (arcs : List (Arc V ℕ)) (i : ℕ) → length arcs ≤ i → list_any (same_key key) (take i (map key_of arcs)) ≡ false → HasNoKey key arcs
  all_none arcs i high none = ap (list_any (same_key key)) (sym (take_all i (map key_of arcs) (let size = length-map arcs key_of in omega (arith, high, size)))) ∙ none
