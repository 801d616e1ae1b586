-- How families of words are taken apart.
use Rattle.std.proofs.Common.{◌≡◌, ◌⊎◌, inl, inr, ℕ, ◌+◌, ◌<◌, ◌≤◌, zero, suc, List, [], ◌∷◌, ◌++◌, Some, length, get_or, slice_get, refl, sym, ap, ap₂, subst, ◌∙◌, true, arith}
use Rattle.std.proofs.Common.{Ordering, Less, Equal, Greater}
use Rattle.std.specs.Ordering.{nat_cmp, ordering_then}
use Rattle.std.specs.Cmp.Lexicographic.{slice_cmp}
use Rattle.std.specs.List.Sorted.{IsPermutation}
use Rattle.std.specs.List.{swap}
use Rattle.std.proofs.lemmas.Bool.{cases_eq}
use Rattle.std.proofs.lemmas.Option.{same_Some, slice_get_within, get_or_from_slice_get, slice_get-get_or}
use Rattle.std.proofs.lemmas.List.{length-append}
use Rattle.std.proofs.lemmas.List.Sorted.{IsPermutation-keeps, IsPermutation-swap, length_permutation}
use Rattle.std.proofs.lemmas.List.Edits.{swapped_from_swap}
use Rattle.fst_semiring.specs.Cost.{Cost, cost_cmp}
use Rattle.fst_semiring.specs.declared.arc_type.ArcType.{ArcType}
use Rattle.fst_semiring.specs.Semiring.{cancels, one_of, times}
use Rattle.fst_semiring.proofs.Laws.{times_assoc, times_one, one_times}
use Rattle.fst_machine.specs.BreadthFirst.{Has}
use Rattle.fst_machine.proofs.Elements.{Has-append_cases, Has_at, at_Has}
use Rattle.fst_nbest.specs.Words.{Words, WeightedWord, word_cmp, WordsAscend, first_move, NoLess, Ahead, move_cmp, Says, ahead_of, InOrder, AreWords}
use Rattle.fst_nbest.specs.Families.{Family, route, Holds, AreDisjoint, AreApart, Leads, IsFamily}
use Rattle.fst_nbest.proofs.Ranks.{nat_cases, nat_less, nat_same, cost_itself, by_weight, by_length, by_places, less_times, cost_less_trans, move_less, word_ahead}

-- ---- the same families in another order

-- where an element that stands in place k of an exchanged list stood
abbrev pub Moved : ℕ → ℕ → ℕ → ℕ → Type 0
Moved a b k j = ((k ≡ a) × (j ≡ b)) ⊎ (((k ≡ b) × (j ≡ a)) ⊎ ((k ≡ a → ⊥) × (k ≡ b → ⊥) × (j ≡ k)))

pub moved_once : (a b i j k l : ℕ) → Moved a b i k → Moved a b j l → k ≡ l → i ≡ j
moved_once a b i j k l (inl p) (inl q) e = omega (arith, p.0, p.1, q.0, q.1)
moved_once a b i j k l (inl p) (inr (inl q)) e = omega (arith, p.0, p.1, q.0, q.1)
moved_once a b i j k l (inl p) (inr (inr q)) e = absurd (q.1 (omega (arith, p.0, p.1, q.2)))
moved_once a b i j k l (inr (inl p)) (inl q) e = omega (arith, p.0, p.1, q.0, q.1)
moved_once a b i j k l (inr (inl p)) (inr (inl q)) e = omega (arith, p.0, p.1, q.0, q.1)
moved_once a b i j k l (inr (inl p)) (inr (inr q)) e = absurd (q.0 (omega (arith, p.0, p.1, q.2)))
moved_once a b i j k l (inr (inr p)) (inl q) e = absurd (p.1 (omega (arith, q.0, q.1, p.2)))
moved_once a b i j k l (inr (inr p)) (inr (inl q)) e = absurd (p.0 (omega (arith, q.0, q.1, p.2)))
moved_once a b i j k l (inr (inr p)) (inr (inr q)) e = omega (arith, p.2, q.2)

pub moved_from : {X : Type 0} (l : List X) (a b k : ℕ) (x : X) → a < length l → b < length l → slice_get (swap l a b) k ≡ Some x → (j : ℕ) × Moved a b k j × (slice_get l j ≡ Some x)
moved_from {X} l a b k x low_a low_b e = by (cases_eq k a) (cases_eq k b)
  where
    here : get_or (swap l a b) k x ≡ x
    here = get_or_from_slice_get (swap l a b) k x x e

    long : length (swap l a b) ≡ length l
    long = length_permutation l (swap l a b) (IsPermutation-swap l (swap l a b) a b low_a low_b refl)

    inside : k < length l
    inside = omega (arith, slice_get_within (swap l a b) k x e, long)

    at : (j : ℕ) → j < length l → get_or (swap l a b) k x ≡ get_or l j x → slice_get l j ≡ Some x
    at j low f = slice_get-get_or l j x low ∙ ap Some (sym f ∙ here)

    by : (k ≡ a) ⊎ (k ≡ a → ⊥) → (k ≡ b) ⊎ (k ≡ b → ⊥) → (j : ℕ) × Moved a b k j × (slice_get l j ≡ Some x)
    by (inl f) q = let s = swapped_from_swap l (swap l a b) a b x low_a low_b refl in (b, inl (f, refl), at b low_b (ap (λ (n : ℕ). get_or (swap l a b) n x) f ∙ s.0))
    by (inr f) (inl h) = let s = swapped_from_swap l (swap l a b) a b x low_a low_b refl in (a, inr (inl (h, refl)), at a low_a (ap (λ (n : ℕ). get_or (swap l a b) n x) h ∙ s.1))
    by (inr f) (inr h) = let s = swapped_from_swap l (swap l a b) a b x low_a low_b refl in (k, inr (inr (f, h, refl)), at k inside (s.2 k f h))

pub Has-permutation : {X : Type 0} (xs ys : List X) (x : X) → IsPermutation xs ys → Has ys x → Has xs x
Has-permutation {X} xs ys x p = IsPermutation-keeps xs (λ (l : List X). Has l x → Has xs x) (λ h. h) step ys p
  where
    step : (l : List X) (i j : ℕ) → i < length l → j < length l → (Has l x → Has xs x) → Has (swap l i j) x → Has xs x
    step l i j low_i low_j before there =
        let at = Has_at (swap l i j) x there in
        let from = moved_from l i j at.0 x low_i low_j at.1 in
        before (at_Has l from.0 x from.2)

pub AreApart-permutation : {N : Type 0} (kind : ArcType) (g : Words N) (xs ys : List (Family N)) → IsPermutation xs ys → AreApart kind g xs → AreApart kind g ys
AreApart-permutation {N} kind g xs ys p apart = IsPermutation-keeps xs (λ (l : List (Family N)). AreApart kind g l) apart step ys p
  where
    step : (l : List (Family N)) (a b : ℕ) → a < length l → b < length l → AreApart kind g l → AreApart kind g (swap l a b)
    step l a b low_a low_b h i j e f at_i at_j other =
        let one = moved_from l a b i e low_a low_b at_i in
        let two = moved_from l a b j f low_a low_b at_j in
        h one.0 two.0 e f one.2 two.2 (λ same. other (moved_once a b i j one.0 two.0 one.1 two.1 same))

-- ---- routes

-- the places of one route come before those of another
pub route_less : (p q r s : List ℕ) (m j : ℕ) → slice_cmp nat_cmp (route p m) (route q j) ≡ Less → first_move r ≡ m → j ≤ first_move s
    → ((k : ℕ) (rest : List ℕ) → q ≡ p ++ (k ∷ rest) → suc k ≡ m → ⊥) → slice_cmp nat_cmp (p ++ r) (q ++ s) ≡ Less
route_less [] [] r s m j e is low apart = ends r s is low (by (nat_cases m j) e)
  where
    by : ((m < j) × (nat_cmp m j ≡ Less)) ⊎ (((m ≡ j) × (nat_cmp m j ≡ Equal)) ⊎ ((j < m) × (nat_cmp m j ≡ Greater))) → slice_cmp nat_cmp (m ∷ []) (j ∷ []) ≡ Less → m < j
    by (inl r) e = r.0
    by (inr (inl r)) e = absurd (let q : Equal ≡ Less = sym (ap (λ (o : Ordering). ordering_then o Equal) r.1) ∙ e in cc)
    by (inr (inr r)) e = absurd (let q : Greater ≡ Less = sym (ap (λ (o : Ordering). ordering_then o Equal) r.1) ∙ e in cc)

    ends : (r s : List ℕ) → first_move r ≡ m → j ≤ first_move s → m < j → slice_cmp nat_cmp r s ≡ Less
    ends r [] is low below = absurd (omega (arith, low, below))
    ends [] (l ∷ s) is low below = refl
    ends (k ∷ r) (l ∷ s) is low below = ap (λ (o : Ordering). ordering_then o (slice_cmp nat_cmp r s)) (nat_less k l (omega (arith, is, low, below)))
route_less [] (l ∷ q) r s m j e is low apart = ends r is (by (nat_cases m (suc l)) e)
  where
    by : ((m < suc l) × (nat_cmp m (suc l) ≡ Less)) ⊎ (((m ≡ suc l) × (nat_cmp m (suc l) ≡ Equal)) ⊎ ((suc l < m) × (nat_cmp m (suc l) ≡ Greater))) → slice_cmp nat_cmp (m ∷ []) (suc l ∷ route q j) ≡ Less → m < suc l
    by (inl r) e = r.0
    by (inr (inl r)) e = absurd (apart l q refl (sym r.0))
    by (inr (inr r)) e = absurd (let q : Greater ≡ Less = sym (ap (λ (o : Ordering). ordering_then o (slice_cmp nat_cmp [] (route q j))) r.1) ∙ e in cc)

    ends : (r : List ℕ) → first_move r ≡ m → m < suc l → slice_cmp nat_cmp r (l ∷ (q ++ s)) ≡ Less
    ends [] is below = refl
    ends (k ∷ r) is below = ap (λ (o : Ordering). ordering_then o (slice_cmp nat_cmp r (q ++ s))) (nat_less k l (omega (arith, is, below)))
route_less (k ∷ p) [] r s m j e is low apart = ends s low (by (nat_cases (suc k) j) e)
  where
    not_less : (p : List ℕ) → slice_cmp nat_cmp (route p m) [] ≡ Less → ⊥
    not_less [] e = cc
    not_less (l ∷ p) e = cc

    by : ((suc k < j) × (nat_cmp (suc k) j ≡ Less)) ⊎ (((suc k ≡ j) × (nat_cmp (suc k) j ≡ Equal)) ⊎ ((j < suc k) × (nat_cmp (suc k) j ≡ Greater))) → slice_cmp nat_cmp (suc k ∷ route p m) (j ∷ []) ≡ Less → suc k < j
    by (inl r) e = r.0
    by (inr (inl r)) e = absurd (not_less p (sym (ap (λ (o : Ordering). ordering_then o (slice_cmp nat_cmp (route p m) [])) r.1) ∙ e))
    by (inr (inr r)) e = absurd (let q : Greater ≡ Less = sym (ap (λ (o : Ordering). ordering_then o (slice_cmp nat_cmp (route p m) [])) r.1) ∙ e in cc)

    ends : (s : List ℕ) → j ≤ first_move s → suc k < j → slice_cmp nat_cmp (k ∷ (p ++ r)) s ≡ Less
    ends [] low below = absurd (omega (arith, low, below))
    ends (l ∷ s) low below = ap (λ (o : Ordering). ordering_then o (slice_cmp nat_cmp (p ++ r) s)) (nat_less k l (omega (arith, low, below)))
route_less (k ∷ p) (l ∷ q) r s m j e is low apart = by (nat_cases (suc k) (suc l)) e (λ same f. route_less p q r s m j f is low (λ i rest g h. apart i rest (ap₂ (◌∷◌) (sym same) g) h))
  where
    by : ((suc k < suc l) × (nat_cmp (suc k) (suc l) ≡ Less)) ⊎ (((suc k ≡ suc l) × (nat_cmp (suc k) (suc l) ≡ Equal)) ⊎ ((suc l < suc k) × (nat_cmp (suc k) (suc l) ≡ Greater)))
        → slice_cmp nat_cmp (suc k ∷ route p m) (suc l ∷ route q j) ≡ Less → (k ≡ l → slice_cmp nat_cmp (route p m) (route q j) ≡ Less → slice_cmp nat_cmp (p ++ r) (q ++ s) ≡ Less)
        → slice_cmp nat_cmp (k ∷ (p ++ r)) (l ∷ (q ++ s)) ≡ Less
    by (inl t) e more = ap (λ (o : Ordering). ordering_then o (slice_cmp nat_cmp (p ++ r) (q ++ s))) (nat_less k l (omega (arith, t.0)))
    by (inr (inl t)) e more =
        let same : k ≡ l = omega (arith, t.0) in
        let tied : nat_cmp k l ≡ Equal = tie (nat_cases k l) same in
        ap (λ (o : Ordering). ordering_then o (slice_cmp nat_cmp (p ++ r) (q ++ s))) tied ∙ more same (sym (ap (λ (o : Ordering). ordering_then o (slice_cmp nat_cmp (route p m) (route q j))) t.1) ∙ e)
      where
        tie : ((k < l) × (nat_cmp k l ≡ Less)) ⊎ (((k ≡ l) × (nat_cmp k l ≡ Equal)) ⊎ ((l < k) × (nat_cmp k l ≡ Greater))) → k ≡ l → nat_cmp k l ≡ Equal
        tie (inl u) same = absurd (omega (arith, u.0, same))
        tie (inr (inl u)) same = u.1
        tie (inr (inr u)) same = absurd (omega (arith, u.0, same))
    by (inr (inr t)) e more = absurd (let u : Greater ≡ Less = sym (ap (λ (o : Ordering). ordering_then o (slice_cmp nat_cmp (route p m) (route q j))) t.1) ∙ e in cc)

-- ---- words behind prefixes

module _ {N : Type 0} (kind : ArcType) (g : Words N) where
  -- a prefix and a word from where it leads are a word
  pub leads_says : (x : N) (prefix : List ℕ) (y : N) (w : Cost) (rest : List ℕ) (u : Cost) → Leads kind g x prefix y w → Says kind g y rest u → Says kind g x (prefix ++ rest) (times kind w u)
  leads_says x [] y w rest u (here, one) says =
      subst (λ (v : Cost). Says kind g x rest v) (sym (ap (λ (z : Cost). times kind z u) one ∙ one_times kind u)) (subst (λ (z : N). Says kind g z rest u) (sym here) says)
  leads_says x (k ∷ prefix) y w rest u (v, z, t, step, leads, weight) says =
      (v, z, times kind t u, step, leads_says z prefix y t rest u leads says, ap (λ (q : Cost). times kind q u) weight ∙ times_assoc kind v t u)

  -- one more step
  pub leads_on : (x : N) (prefix : List ℕ) (y : N) (w : Cost) (k : ℕ) (v : Cost) (z : N) → Leads kind g x prefix y w → g.step y k ≡ Some (v, z) → Leads kind g x (prefix ++ k ∷ []) z (times kind w v)
  leads_on x [] y w k v z (here, one) step =
      (v, z, one_of kind, ap (λ (n : N). g.step n k) here ∙ step, (refl, refl), ap (λ (q : Cost). times kind q v) one ∙ (one_times kind v ∙ sym (times_one kind v)))
  leads_on x (i ∷ prefix) y w k v z (t, n, u, first, leads, weight) step =
      (t, n, times kind u v, first, leads_on n prefix y u k v z leads step, ap (λ (q : Cost). times kind q v) weight ∙ times_assoc kind t u v)

  -- a prefix leads to one name, with one weight
  pub leads_once : (x : N) (prefix : List ℕ) (y z : N) (w v : Cost) → Leads kind g x prefix y w → Leads kind g x prefix z v → (y ≡ z) × (w ≡ v)
  leads_once x [] y z w v (here, one) (there, two) = (sym here ∙ there, one ∙ sym two)
  leads_once x (k ∷ prefix) y z w v (a, n, t, step, leads, weight) (b, o, u, other, rest, weighs) =
      let same : (a, n) ≡ (b, o) = same_Some (a, n) (b, o) (sym step ∙ other) in
      let moved : Leads kind g n prefix z u = subst (λ (m : N). Leads kind g m prefix z u) (sym (ap (λ (p : Cost × N). p.1) same)) rest in
      let more = leads_once n prefix y z t u leads moved in
      (more.0, weight ∙ (ap₂ (times kind) (ap (λ (p : Cost × N). p.0) same) more.1 ∙ sym weighs))

  -- a word says one weight
  pub says_once : (x : N) (word : List ℕ) (u v : Cost) → Says kind g x word u → Says kind g x word v → u ≡ v
  says_once x [] u v one two = same_Some u v (sym one ∙ two)
  says_once x (k ∷ word) u v (a, n, t, step, says, weight) (b, o, q, other, rest, weighs) =
      let same : (a, n) ≡ (b, o) = same_Some (a, n) (b, o) (sym step ∙ other) in
      let moved : Says kind g n word q = subst (λ (m : N). Says kind g m word q) (sym (ap (λ (p : Cost × N). p.1) same)) rest in
      weight ∙ (ap₂ (times kind) (ap (λ (p : Cost × N). p.0) same) (says_once n word t q says moved) ∙ sym weighs)

  -- a word goes on by a move that it can take
  pub says_rest : (x : N) (k : ℕ) (rest : List ℕ) (u v : Cost) (y : N) → Says kind g x (k ∷ rest) u → g.step x k ≡ Some (v, y) → (t : Cost) × Says kind g y rest t × (u ≡ times kind v t)
  says_rest x k rest u v y (a, n, t, step, says, weight) other =
      let same : (a, n) ≡ (v, y) = same_Some (a, n) (v, y) (sym step ∙ other) in
      (t, subst (λ (m : N). Says kind g m rest t) (ap (λ (p : Cost × N). p.1) same) says, weight ∙ ap (λ (p : Cost × N). times kind p.0 t) same)

  -- a word behind a prefix, parted there
  pub says_split : (x : N) (prefix : List ℕ) (y : N) (w : Cost) (rest : List ℕ) (v : Cost) → Leads kind g x prefix y w → Says kind g x (prefix ++ rest) v → (u : Cost) × Says kind g y rest u × (v ≡ times kind w u)
  says_split x [] y w rest v (here, one) says = (v, subst (λ (z : N). Says kind g z rest v) here says, sym (ap (λ (z : Cost). times kind z v) one ∙ one_times kind v))
  says_split x (k ∷ prefix) y w rest v (a, n, t, step, leads, weight) says =
      let on = says_rest x k (prefix ++ rest) v a n says step in
      let more = says_split n prefix y t rest on.0 leads on.1 in
      (more.0, more.1, on.2 ∙ (ap (λ (q : Cost). times kind a q) more.2 ∙ (sym (times_assoc kind a t more.0) ∙ ap (λ (q : Cost). times kind q more.0) (sym weight))))

-- ---- lists of words and of families

pub ascends_push : (words : List WeightedWord) (a : WeightedWord) → WordsAscend words → ((b : WeightedWord) → Has words b → word_cmp b a ≡ Less) → WordsAscend (words ++ a ∷ [])
ascends_push [] a h before = ((λ b none. absurd none), tt)
ascends_push (c ∷ words) a h before = ((λ b there. by b (Has-append_cases words (a ∷ []) b there)), ascends_push words a h.1 (λ b there. before b (inr there)))
  where
    by : (b : WeightedWord) → Has words b ⊎ Has (a ∷ []) b → word_cmp c b ≡ Less
    by b (inl there) = h.0 b there
    by b (inr (inl e)) = subst (λ (z : WeightedWord). word_cmp c z ≡ Less) e (before c (inl refl))
    by b (inr (inr none)) = absurd none

module _ {N : Type 0} (kind : ArcType) (g : Words N) where
  pub apart_head : (e : Family N) (families : List (Family N)) → AreApart kind g (e ∷ families) → (f : Family N) → Has families f → AreDisjoint kind g e f
  apart_head e families h f there = let at = Has_at families f there in h 0 (suc at.0) e f refl at.1 (λ s. cc)

  pub apart_tail : (e : Family N) (families : List (Family N)) → AreApart kind g (e ∷ families) → AreApart kind g families
  apart_tail e families h i j f k at_i at_j other = h (suc i) (suc j) f k at_i at_j (λ s. other (omega (arith, s)))

  pub apart_cons : (e : Family N) (families : List (Family N)) → ((f : Family N) → Has families f → AreDisjoint kind g e f) → AreApart kind g families → AreApart kind g (e ∷ families)
  apart_cons e families here h zero zero f k at_i at_j other = absurd (other refl)
  apart_cons e families here h zero (suc j) f k at_i at_j other = subst (λ (z : Family N). AreDisjoint kind g z k) (same_Some e f at_i) (here k (at_Has families j k at_j))
  apart_cons e families here h (suc i) zero f k at_i at_j other =
      λ b in_f in_k. subst (λ (z : Family N). AreDisjoint kind g z f) (same_Some e k at_j) (here f (at_Has families i f at_i)) b in_k in_f
  apart_cons e families here h (suc i) (suc j) f k at_i at_j other = h i j f k at_i at_j (λ s. other (ap suc s))

-- words behind one prefix compare by what stands behind it
pub slice_behind : (p r s : List ℕ) → slice_cmp nat_cmp (p ++ r) (p ++ s) ≡ slice_cmp nat_cmp r s
slice_behind [] r s = refl
slice_behind (k ∷ p) r s = ap (λ (o : Ordering). ordering_then o (slice_cmp nat_cmp (p ++ r) (p ++ s))) (nat_same k) ∙ slice_behind p r s

pub slice_move : (r s : List ℕ) → first_move r < first_move s → slice_cmp nat_cmp r s ≡ Less
slice_move r [] low = absurd (omega (arith, low))
slice_move [] (l ∷ s) low = refl
slice_move (k ∷ r) (l ∷ s) low = ap (λ (o : Ordering). ordering_then o (slice_cmp nat_cmp r s)) (nat_less k l (omega (arith, low)))

pub route_same : (p q : List ℕ) (m j : ℕ) → route p m ≡ route q j → (p ≡ q) × (m ≡ j)
route_same [] [] m j e = (refl, cc)
route_same [] (l ∷ []) m j e = absurd (cc)
route_same [] (l ∷ (i ∷ q)) m j e = absurd (cc)
route_same (k ∷ []) [] m j e = absurd (cc)
route_same (k ∷ (i ∷ p)) [] m j e = absurd (cc)
route_same (k ∷ p) (l ∷ q) m j e =
    let heads : k ≡ l = cc in
    let tails : route p m ≡ route q j = cc in
    let rest = route_same p q m j tails in
    (ap₂ (◌∷◌) heads rest.0, rest.1)

-- weight t and length n with first move m come before weight v and length l with first move j, or tie and m is no greater
abbrev pub Behind : Cost → ℕ → ℕ → Cost → ℕ → ℕ → Type 0
Behind t n m v l j = (cost_cmp t v ≡ Less) ⊎ ((t ≡ v) × ((n < l) ⊎ ((n ≡ l) × (m ≤ j))))

-- a word comes before another by what is ahead
pub by_behind : (a b : WeightedWord) (m j : ℕ) → Behind a.weight (length a.word) m b.weight (length b.word) j → (a.weight ≡ b.weight → length a.word ≡ length b.word → m ≤ j → slice_cmp nat_cmp a.word b.word ≡ Less) → word_cmp a b ≡ Less
by_behind a b m j (inl e) tied = by_weight a b e
by_behind a b m j (inr (e, (inl low))) tied = by_length a b e low
by_behind a b m j (inr (e, (inr (same, low)))) tied = by_places a b e same (tied e same low)

up_to : (n l : ℕ) → n ≤ l → (n < l) ⊎ (n ≡ l)
up_to n l low = by (cases_eq n l)
  where
    by : (n ≡ l) ⊎ (n ≡ l → ⊥) → (n < l) ⊎ (n ≡ l)
    by (inl e) = inr e
    by (inr other) = inl (omega arith)

module _ {N : Type 0} (kind : ArcType) (g : Words N) (dist : N → Cost) (count : N → ℕ) (cancel : cancels kind ≡ true) (good : AreWords kind g dist count) where
  -- a word that goes on by one of these moves has no less ahead than the first of them
  rest_behind : (x : N) (m : ℕ) (moves : List ℕ) (e : Ahead) (rest : List ℕ) (u : Cost) → InOrder kind g dist count x (m ∷ moves) → ahead_of kind g dist count x m ≡ Some e → Says kind g x rest u
      → Has (m ∷ moves) (first_move rest) → Behind e.total e.arcs m u (length rest) (first_move rest)
  rest_behind x m moves e rest u order is says move = by_move move
    where
      there : (f : Ahead) × (ahead_of kind g dist count x (first_move rest) ≡ Some f) × NoLess f.total f.arcs u (length rest)
      there = word_ahead kind g dist count cancel good x rest u says

      no_less : (f : Ahead) → e.total ≡ f.total → e.arcs ≡ f.arcs → m ≤ first_move rest → NoLess f.total f.arcs u (length rest) → Behind e.total e.arcs m u (length rest) (first_move rest)
      no_less f total arcs low (inl less) = inl (subst (λ (z : Cost). cost_cmp z u ≡ Less) (sym total) less)
      no_less f total arcs low (inr (same, long)) = inr (total ∙ same, by (up_to e.arcs (length rest) (omega (arith, arcs, long))))
        where
          by : (e.arcs < length rest) ⊎ (e.arcs ≡ length rest) → (e.arcs < length rest) ⊎ ((e.arcs ≡ length rest) × (m ≤ first_move rest))
          by (inl shorter) = inl shorter
          by (inr tie) = inr (tie, low)

      less : (f : Ahead) → (cost_cmp e.total f.total ≡ Less) ⊎ ((e.total ≡ f.total) × ((e.arcs < f.arcs) ⊎ ((e.arcs ≡ f.arcs) × (m < first_move rest)))) → NoLess f.total f.arcs u (length rest) → Behind e.total e.arcs m u (length rest) (first_move rest)
      less f (inl lower) (inl more) = inl (cost_less_trans e.total f.total u lower more)
      less f (inl lower) (inr (same, long)) = inl (subst (λ (z : Cost). cost_cmp e.total z ≡ Less) same lower)
      less f (inr (total, (inl shorter))) (inl more) = inl (subst (λ (z : Cost). cost_cmp z u ≡ Less) (sym total) more)
      less f (inr (total, (inl shorter))) (inr (same, long)) = inr (total ∙ same, inl (omega (arith, shorter, long)))
      less f (inr (total, (inr (arcs, low)))) rank = no_less f total arcs (omega (arith, low)) rank

      by_move : Has (m ∷ moves) (first_move rest) → Behind e.total e.arcs m u (length rest) (first_move rest)
      by_move (inl same) =
          let one : e ≡ there.0 = same_Some e there.0 (sym is ∙ (ap (ahead_of kind g dist count x) same ∙ there.1)) in
          no_less there.0 (ap (λ (a : Ahead). a.total) one) (ap (λ (a : Ahead). a.arcs) one) (omega (arith, same)) there.2
      by_move (inr later) =
          let one : order.0 ≡ e = same_Some order.0 e (sym order.1 ∙ is) in
          less there.0 (move_less m (first_move rest) e there.0 (subst (λ (a : Ahead). move_cmp m a (first_move rest) there.0 ≡ Less) one (order.2 (first_move rest) there.0 later there.1))) there.2

  -- the first of moves in order is not among the others
  pub first_once : (x : N) (m : ℕ) (moves : List ℕ) → InOrder kind g dist count x (m ∷ moves) → Has moves m → ⊥
  first_once x m moves order there = by (move_less m m order.0 order.0 (order.2 m order.0 there order.1))
    where
      by : (cost_cmp order.0.total order.0.total ≡ Less) ⊎ ((order.0.total ≡ order.0.total) × ((order.0.arcs < order.0.arcs) ⊎ ((order.0.arcs ≡ order.0.arcs) × (m < m)))) → ⊥
      by (inl e) = cost_itself order.0.total e
      by (inr (same, (inl low))) = omega (arith, low)
      by (inr (same, (inr (tie, low)))) = omega (arith, low)

  module _ (start : N) where
    -- a word of a family has no less weight and length than the family's first move has ahead
    pub holds_behind : (f : Family N) (m : ℕ) (moves : List ℕ) (e : Ahead) (b : WeightedWord) (h : Holds kind g f b) → IsFamily kind g dist count start f → f.moves ≡ m ∷ moves → ahead_of kind g dist count f.at m ≡ Some e
        → Behind (times kind f.front e.total) (length f.prefix + e.arcs) m b.weight (length b.word) (first_move h.rest)
    holds_behind f m moves e b h family same is =
        by (rest_behind f.at m moves e h.rest h.ahead (subst (λ (ms : List ℕ). InOrder kind g dist count f.at ms) same family.ordered) is h.says (subst (λ (ms : List ℕ). Has ms (first_move h.rest)) same h.move))
      where
        long : length b.word ≡ length f.prefix + length h.rest
        long = ap length h.word ∙ length-append f.prefix h.rest

        by : Behind e.total e.arcs m h.ahead (length h.rest) (first_move h.rest) → Behind (times kind f.front e.total) (length f.prefix + e.arcs) m b.weight (length b.word) (first_move h.rest)
        by (inl lower) = inl (subst (λ (z : Cost). cost_cmp (times kind f.front e.total) z ≡ Less) (sym h.weight) (less_times kind f.front e.total h.ahead cancel family.cost family.solid lower))
        by (inr (total, (inl shorter))) = inr (ap (λ (z : Cost). times kind f.front z) total ∙ sym h.weight, inl (omega (arith, shorter, long)))
        by (inr (total, (inr (tie, low)))) = inr (ap (λ (z : Cost). times kind f.front z) total ∙ sym h.weight, inr (omega (arith, tie, long), low))

    -- a word of a family is a word of the start
    pub holds_says : (f : Family N) (b : WeightedWord) → IsFamily kind g dist count start f → Holds kind g f b → Says kind g start b.word b.weight
    holds_says f b family h =
        subst (λ (v : Cost). Says kind g start b.word v) (sym h.weight) (subst (λ (word : List ℕ). Says kind g start word (times kind f.front h.ahead)) (sym h.word) (leads_says kind g start f.prefix f.at f.front h.rest h.ahead family.leads h.says))

    -- a word of the start that goes on as a family does is of the family
    pub says_holds : (f : Family N) (b : WeightedWord) (rest : List ℕ) → IsFamily kind g dist count start f → Says kind g start b.word b.weight → b.word ≡ f.prefix ++ rest → Has f.moves (first_move rest) → Holds kind g f b
    says_holds f b rest family says word move =
        let parted = says_split kind g start f.prefix f.at f.front rest b.weight family.leads (subst (λ (w : List ℕ). Says kind g start w b.weight) word says) in
        record { rest = rest; ahead = parted.0; says = parted.1; word = word; weight = parted.2; move = move }
