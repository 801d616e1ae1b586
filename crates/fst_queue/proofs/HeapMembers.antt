-- The states of a heap: who has a place, and which keys they have.
use Rattle.std.proofs.Common.{◌≡◌, ◌≢◌, ◌⊎◌, ◌↔◌, inl, inr, ℕ, ◌+◌, ◌-◌, ◌<◌, zero, suc, List, [], ◌∷◌, Option, Some, None, Result, Ok, Err, length, get_or, sym, refl, ap, ◌∙◌, subst, arith}
use Rattle.std.specs.Option.{IfSome}
use Rattle.std.specs.Result.{OnOk}
use Rattle.std.proofs.lemmas.Bool.{cases_eq}
use Rattle.fst_semiring.specs.declared.key.Key.{Key}
use Rattle.fst_machine.specs.BreadthFirst.{Has, Apart}
use Rattle.fst_queue.specs.Members.{Adds, Takes}
use Rattle.fst_queue.specs.Heap.{key_at, entries_of, states_of, IsBest, Linked, NoWorse, Rekeys, SamePresent, TakesBest}

-- a member stands in some place
pub Has_place : (heap : List ℕ) (q : ℕ) → Has heap q → (i : ℕ) × (i < length heap) × (get_or heap i 0 ≡ q)
Has_place [] q h = absurd h
Has_place (z ∷ xs) q (inl e) = (0, omega arith, e)
Has_place (z ∷ xs) q (inr h) = let rest = Has_place xs q h in (suc rest.0, omega (arith, rest.1), rest.2)

pub place_Has : (heap : List ℕ) (i q : ℕ) → i < length heap → get_or heap i 0 ≡ q → Has heap q
place_Has [] i q low e = absurd (omega arith)
place_Has (z ∷ xs) zero q low e = inl e
place_Has (z ∷ xs) (suc i) q low e = inr (place_Has xs i q (omega arith) e)

places_Apart : (heap : List ℕ) → ((i j : ℕ) → i < length heap → j < length heap → get_or heap i 0 ≡ get_or heap j 0 → i ≡ j) → Apart heap
places_Apart [] one = tt
places_Apart (z ∷ xs) one = ((λ h. again (Has_place xs z h)), places_Apart xs (λ i j low lower e. let same : suc i ≡ suc j = one (suc i) (suc j) (omega arith) (omega arith) e in omega arith))
  where
    again : (i : ℕ) × (i < length xs) × (get_or xs i 0 ≡ z) → ⊥
    again at = let same : suc at.0 ≡ 0 = one (suc at.0) 0 (omega (arith, at.1)) (omega arith) at.2 in omega arith

module _ (heap places : List ℕ) (size : ℕ) (linked : Linked heap places size) where
  pub linked_Apart : Apart heap
  linked_Apart = places_Apart heap (λ i j low lower e. let same : i + 1 ≡ j + 1 = sym (linked.placed i low) ∙ ap (λ (n : ℕ). get_or places n 0) e ∙ linked.placed j lower in omega arith)

  pub Has_placed : (q : ℕ) → Has heap q → 0 < get_or places q 0
  Has_placed q h =
      let at = Has_place heap q h in
      let is : get_or places q 0 ≡ at.0 + 1 = ap (λ (n : ℕ). get_or places n 0) (sym at.2) ∙ linked.placed at.0 at.1 in
      omega arith

  pub placed_Has : (q : ℕ) → 0 < get_or places q 0 → Has heap q
  placed_Has q some =
      let was = linked.back q (get_or places q 0 - 1) (omega arith) in
      place_Has heap (get_or places q 0 - 1) q was.0 was.1

-- states that change places stay
pub same_members : (heap places new moved : List ℕ) (size fit : ℕ) → Linked heap places size → Linked new moved fit → SamePresent places moved → (q : ℕ) → Has new q ↔ Has heap q
same_members heap places new moved size fit old linked same q =
    ((λ h. by_old (Has_placed new moved fit linked q h) (cases_eq (get_or places q 0) 0)), λ h. by_new (Has_placed heap places size old q h) (cases_eq (get_or moved q 0) 0))
  where
    by_old : 0 < get_or moved q 0 → (get_or places q 0 ≡ 0) ⊎ (get_or places q 0 ≡ 0 → ⊥) → Has heap q
    by_old some (inl none) = absurd (let gone : get_or moved q 0 ≡ 0 = (same q).1 none in omega arith)
    by_old some (inr other) = placed_Has heap places size old q (omega arith)

    by_new : 0 < get_or places q 0 → (get_or moved q 0 ≡ 0) ⊎ (get_or moved q 0 ≡ 0 → ⊥) → Has new q
    by_new some (inl none) = absurd (let gone : get_or places q 0 ≡ 0 = (same q).0 none in omega arith)
    by_new some (inr other) = placed_Has new moved fit linked q (omega arith)

pub entries_states : (keys : List Key) (heap : List ℕ) → states_of (entries_of keys heap) ≡ heap
entries_states keys [] = refl
entries_states keys (z ∷ xs) = ap (λ (t : List ℕ). z ∷ t) (entries_states keys xs)

pub entries_Has : (keys : List Key) (heap : List ℕ) (q : ℕ) (k : Key) → Has (entries_of keys heap) (q, k) ↔ (Has heap q × (k ≡ key_at keys q))
entries_Has keys [] q k = ((λ h. absurd h), λ h. absurd h.0)
entries_Has keys (z ∷ xs) q k = ((λ h. there h (entries_Has keys xs q k).0), λ h. here h.0 h.1 (entries_Has keys xs q k).1)
  where
    there : Has (entries_of keys (z ∷ xs)) (q, k) → (Has (entries_of keys xs) (q, k) → Has xs q × (k ≡ key_at keys q)) → Has (z ∷ xs) q × (k ≡ key_at keys q)
    there (inl e) rest = let same : z ≡ q = ap (λ (p : ℕ × Key). p.0) e in (inl same, sym (ap (λ (p : ℕ × Key). p.1) e) ∙ ap (key_at keys) same)
    there (inr h) rest = let old = rest h in (inr old.0, old.1)

    here : Has (z ∷ xs) q → k ≡ key_at keys q → (Has xs q × (k ≡ key_at keys q) → Has (entries_of keys xs) (q, k)) → Has (entries_of keys (z ∷ xs)) (q, k)
    here (inl e) is rest = inl (ap (λ (s : ℕ). (s, key_at keys s)) e ∙ ap (λ (x : Key). (q, x)) (sym is))
    here (inr h) is rest = inr (rest (h, is))

pub states_put : (keys new : List Key) (heap put : List ℕ) (state : ℕ) → Adds heap state put → Adds (states_of (entries_of keys heap)) state (states_of (entries_of new put))
states_put keys new heap put state adds =
    subst (λ xs. Adds xs state (states_of (entries_of new put))) (sym (entries_states keys heap)) (subst (λ xs. Adds heap state xs) (sym (entries_states new put)) adds)

pub states_taken : (keys : List Key) (heap left : List ℕ) (result : Option ℕ) → Takes heap result left → Takes (states_of (entries_of keys heap)) result (states_of (entries_of keys left))
states_taken keys heap left result takes =
    subst (λ xs. Takes xs result (states_of (entries_of keys left))) (sym (entries_states keys heap)) (subst (λ xs. Takes heap result xs) (sym (entries_states keys left)) takes)

pub states_Apart : (keys : List Key) (heap places : List ℕ) (size : ℕ) → Linked heap places size → Apart (states_of (entries_of keys heap))
states_Apart keys heap places size linked = subst (λ xs. Apart xs) (sym (entries_states keys heap)) (linked_Apart heap places size linked)

-- a put, as the entries show it
pub entries_put : (keys new : List Key) (heap put : List ℕ) (state : ℕ) (key : Key) → Adds heap state put → key_at new state ≡ key → ((q : ℕ) → q ≢ state → key_at new q ≡ key_at keys q) → Rekeys (entries_of keys heap) state key (entries_of new put)
entries_put keys new heap put state key adds is others q k = ((λ h. after ((entries_Has new put q k).0 h) (cases_eq q state)), λ h. before h)
  where
    was : q ≢ state → Has heap q ⊎ (q ≡ state) → Has heap q
    was other (inl h) = h
    was other (inr e) = absurd (other e)

    after : Has put q × (k ≡ key_at new q) → (q ≡ state) ⊎ (q ≡ state → ⊥) → ((q ≡ state) × (k ≡ key)) ⊎ ((q ≢ state) × Has (entries_of keys heap) (q, k))
    after m (inl e) = inl (e, m.1 ∙ ap (key_at new) e ∙ is)
    after m (inr other) = inr (other, (entries_Has keys heap q k).1 (was other ((adds q).0 m.0), m.1 ∙ others q other))

    before : ((q ≡ state) × (k ≡ key)) ⊎ ((q ≢ state) × Has (entries_of keys heap) (q, k)) → Has (entries_of new put) (q, k)
    before (inl h) = (entries_Has new put q k).1 ((adds q).1 (inr h.0), h.1 ∙ sym is ∙ ap (key_at new) (sym h.0))
    before (inr h) = let m = (entries_Has keys heap q k).0 h.1 in (entries_Has new put q k).1 ((adds q).1 (inl m.0), m.1 ∙ sym (others q h.0))

-- a take, as the entries show it
pub entries_taken : (keys : List Key) (heap left : List ℕ) (result : Option ℕ) → Takes heap result left → IfSome result (λ s. IsBest keys heap s) → TakesBest (entries_of keys heap) result (entries_of keys left)
entries_taken keys heap left None takes best = (ap (entries_of keys) takes.0, ap (entries_of keys) takes.1)
entries_taken keys heap left (Some state) takes best = record {
  key = key_at keys state;
  had = (entries_Has keys heap state (key_at keys state)).1 (takes.0, refl);
  best = λ q k h. no_worse q k ((entries_Has keys heap q k).0 h);
  left = λ q k. (
    (λ h. let m = (entries_Has keys left q k).0 h in let old = (takes.1 q).0 m.0 in ((entries_Has keys heap q k).1 (old.0, m.1), old.1)),
    λ h. let m = (entries_Has keys heap q k).0 h.0 in (entries_Has keys left q k).1 ((takes.1 q).1 (m.0, h.1), m.1),
  );
}
  where
    no_worse : (q : ℕ) (k : Key) → Has heap q × (k ≡ key_at keys q) → NoWorse (key_at keys state) k
    no_worse q k m = subst (λ x. NoWorse (key_at keys state) x) (sym m.1) (best q m.0)

-- what follows from two clauses of an Ok
pub on_ok_both : {X E : Type 0} (r : Result X E) (P Q R : Type 0) → (P → Q → R) → OnOk r P → OnOk r Q → OnOk r R
on_ok_both (Ok x) P Q R f h g = f h g
on_ok_both (Err e) P Q R f h g = tt
