-- Rounds over the rows of all states: what one tells, and what holds where it splits nothing.
use Rattle.std.proofs.Common.{◌≡◌, ◌≢◌, ◌⊎◌, inl, inr, ℕ, ◌+◌, ◌<◌, ◌≤◌, List, [], ◌∷◌, ◌++◌, Some, length, map, get_or, slice_get, sym, refl, ap, ap₂, ◌∙◌, arith}
use Rattle.std.proofs.lemmas.List.{length-append}
use Rattle.std.proofs.lemmas.Bool.{cases_eq, cases_lt}
use Rattle.std.proofs.lemmas.Option.{slice_get-get_or, slice_get_within, get_or_from_slice_get, same_Some}
use Rattle.fst_semiring.specs.Cost.{Cost}
use Rattle.fst_machine.specs.Machine.{Arc}
use Rattle.fst_machine.specs.Graph.{Graph, nexts}
use Rattle.fst_machine.proofs.Arcs.{at_append_left, at_mapped}
use Rattle.fst_machine.proofs.Narrowing.{all_at}
use Rattle.fst_minimize.specs.Numbered.{IsNumbering, TellsApart, number_in, SeenRows, SplitsRows, RowsBelow, AreRows, TellsBehaviour}
use Rattle.fst_minimize.specs.Refining.{IsRefined, IsRound}
use Rattle.fst_minimize.proofs.Few.{few}
use Rattle.fst_distance.proofs.Lists.{push_last}
use Rattle.fst_minimize.proofs.Refining.{EndsBelow, round_refined, round_last}

-- nothing is seen at first
pub seen_none : (numbers : List ℕ) (lists : List (List ℕ)) → SeenRows numbers lists 0 []
seen_none numbers lists = record { size = refl; row = (λ p r low e. absurd (omega arith)) }

-- one row more
pub seen_push : (numbers : List ℕ) (rows : List (List ℕ)) (done : ℕ) (seen : List (ℕ × List ℕ)) (r : List ℕ) → slice_get rows done ≡ Some r → SeenRows numbers rows done seen
    → SeenRows numbers rows (done + 1) (seen ++ (number_in numbers done, map (number_in numbers) r) ∷ [])
seen_push numbers rows done seen r here h = record {
  size = (let n = length-append seen ((number_in numbers done, map (number_in numbers) r) ∷ []) in let s = h.size in omega arith);
  row = at;
}
  where
    new : ℕ × List ℕ
    new = (number_in numbers done, map (number_in numbers) r)

    at : (p : ℕ) (s : List ℕ) → p < done + 1 → slice_get rows p ≡ Some s → slice_get (seen ++ (number_in numbers done, map (number_in numbers) r) ∷ []) p ≡ Some (number_in numbers p, map (number_in numbers) s)
    at p s low e = by (cases_lt p done)
      where
        by : (p < done) ⊎ (done ≤ p) → slice_get (seen ++ (number_in numbers done, map (number_in numbers) r) ∷ []) p ≡ Some (number_in numbers p, map (number_in numbers) s)
        by (inl early) = at_append_left seen ((number_in numbers done, map (number_in numbers) r) ∷ []) p (number_in numbers p, map (number_in numbers) s) (h.row p s early e)
        by (inr late) =
            let same : p ≡ done = omega arith in
            let rows_same : r ≡ s = same_Some r s (sym here ∙ (ap (slice_get rows) (sym same) ∙ e)) in
            let last : p ≡ length seen = same ∙ sym h.size in
            ap (slice_get (seen ++ (number_in numbers done, map (number_in numbers) r) ∷ [])) last ∙ (push_last seen (number_in numbers done, map (number_in numbers) r)
            ∙ ap₂ (λ k t. Some (number_in numbers k, map (number_in numbers) t)) (sym same) rows_same)

-- what numbers of rows tell of states
pub seen_splits : (numbers numbers2 : List ℕ) (rows : List (List ℕ)) (seen : List (ℕ × List ℕ)) → SeenRows numbers rows (length rows) seen → TellsApart seen numbers2 → SplitsRows numbers numbers2 rows
seen_splits numbers numbers2 rows seen h t = record { size = t.size ∙ h.size; same = same; other = other }
  where
    has : (p : ℕ) (r : List ℕ) → slice_get rows p ≡ Some r → slice_get numbers2 p ≡ Some (number_in numbers2 p)
    has p r e = let low = slice_get_within rows p r e in let a = h.size in let b = t.size in slice_get-get_or numbers2 p 0 (omega arith)

    is : (p : ℕ) (r : List ℕ) → slice_get rows p ≡ Some r → slice_get seen p ≡ Some (number_in numbers p, map (number_in numbers) r)
    is p r e = h.row p r (slice_get_within rows p r e) e

    same : (p q : ℕ) (r s : List ℕ) → slice_get rows p ≡ Some r → slice_get rows q ≡ Some s → number_in numbers2 p ≡ number_in numbers2 q
        → (number_in numbers p ≡ number_in numbers q) × (map (number_in numbers) r ≡ map (number_in numbers) s)
    same p q r s one two e =
        let tells = t.same p q (number_in numbers2 p) (has p r one) (has q s two ∙ ap Some (sym e)) in
        let pairs = same_Some (number_in numbers p, map (number_in numbers) r) (number_in numbers q, map (number_in numbers) s) (sym (is p r one) ∙ (tells ∙ is q s two)) in
        (ap (λ (x : ℕ × List ℕ). x.0) pairs, ap (λ (x : ℕ × List ℕ). x.1) pairs)

    other : (p q : ℕ) (r s : List ℕ) → slice_get rows p ≡ Some r → slice_get rows q ≡ Some s → number_in numbers p ≡ number_in numbers q
        → map (number_in numbers) r ≡ map (number_in numbers) s → number_in numbers2 p ≡ number_in numbers2 q
    other p q r s one two head ends =
        t.other p q (number_in numbers2 p) (number_in numbers2 q) (has p r one) (has q s two) (is p r one ∙ (ap₂ (λ k l. Some (k, l)) head ends ∙ sym (is q s two)))

-- a numbering of n places
module _ (n : ℕ) (numbers least : List ℕ) (h : IsNumbering numbers least) (size : length numbers ≡ n) where
  -- the first place with a number
  pub leads : (i : ℕ) → i < length least → (p : ℕ) × (p < n) × (number_in numbers p ≡ i) × (slice_get least i ≡ Some p)
  leads i low =
      let p = get_or least i 0 in
      let there = slice_get-get_or least i 0 low in
      let has = h.member i p there in
      let within = slice_get_within numbers p i has in
      (p, omega arith, get_or_from_slice_get numbers p i 0 has, there)

  -- a number is one of those that were given
  pub number_below : (p : ℕ) → p < n → number_in numbers p < length least
  number_below p low =
      let q = h.first p (number_in numbers p) (slice_get-get_or numbers p 0 (omega arith)) in
      slice_get_within least (number_in numbers p) q.0 q.1

  -- there are no more numbers than places
  pub count_below : length least ≤ n
  count_below = few (length least) n (λ i p. slice_get least i ≡ Some p) (λ i low. let l = leads i low in (l.0, l.1, l.3))
      (λ i j p low less one two. same_Some i j (sym (h.member i p one) ∙ h.member j p two))

-- a numbering and a finer one
module _ (n : ℕ) (numbers least numbers2 least2 : List ℕ) (h : IsNumbering numbers least) (k : IsNumbering numbers2 least2) (size : length numbers ≡ n) (size2 : length numbers2 ≡ n)
    (finer : (p q : ℕ) → p < n → q < n → number_in numbers2 p ≡ number_in numbers2 q → number_in numbers p ≡ number_in numbers q) where
  -- it has no fewer numbers
  pub count_grows : length least ≤ length least2
  count_grows = few (length least) (length least2) (λ i r. (p : ℕ) × (p < n) × (number_in numbers p ≡ i) × (number_in numbers2 p ≡ r))
      (λ i low. let l = leads n numbers least h size i low in (number_in numbers2 l.0, number_below n numbers2 least2 k size2 l.0 l.1, (l.0, l.1, l.2, refl)))
      (λ i j r low less one two. sym one.2 ∙ (finer one.0 two.0 one.1 two.1 (one.3 ∙ sym two.3) ∙ two.2))

  -- Two places that have one number, and two of the finer numbering.
  module _ (p q : ℕ) (low : p < n) (less : q < n) (together : number_in numbers p ≡ number_in numbers q) (apart : number_in numbers2 p ≢ number_in numbers2 q) where
    -- A number stands for the finer number of some place with it, that of p for the finer number of p; and one number
    -- more stands for the finer number of q.
    abbrev Stands : ℕ → ℕ → Type 0
    Stands i r = ((a : ℕ) × (a < n) × (number_in numbers a ≡ i) × (number_in numbers2 a ≡ r) × (i ≡ number_in numbers p → a ≡ p)) ⊎ ((i ≡ length least) × (number_in numbers2 q ≡ r))

    stands : (i : ℕ) → i < length least + 1 → (r : ℕ) × (r < length least2) × Stands i r
    stands i below = by (cases_lt i (length least)) (cases_eq i (number_in numbers p))
      where
        by : (i < length least) ⊎ (length least ≤ i) → (i ≡ number_in numbers p) ⊎ (i ≢ number_in numbers p) → (r : ℕ) × (r < length least2) × Stands i r
        by (inl early) (inl own) = (number_in numbers2 p, number_below n numbers2 least2 k size2 p low, inl (p, low, sym own, refl, (λ e. refl)))
        by (inl early) (inr other) =
            let l = leads n numbers least h size i early in
            (number_in numbers2 l.0, number_below n numbers2 least2 k size2 l.0 l.1, inl (l.0, l.1, l.2, refl, (λ e. absurd (other e))))
        by (inr late) own = (number_in numbers2 q, number_below n numbers2 least2 k size2 q less, inr (omega arith, refl))

    not_both : (i r : ℕ) → (a : ℕ) × (a < n) × (number_in numbers a ≡ i) × (number_in numbers2 a ≡ r) × (i ≡ number_in numbers p → a ≡ p) → number_in numbers2 q ≡ r → ⊥
    not_both i r one two =
        let same : number_in numbers one.0 ≡ number_in numbers q = finer one.0 q one.1 less (one.3 ∙ sym two) in
        let here : one.0 ≡ p = one.4 (sym one.2 ∙ (same ∙ sym together)) in
        apart (ap (number_in numbers2) (sym here) ∙ (one.3 ∙ sym two))

    once : (i j r : ℕ) → i < length least + 1 → j < length least + 1 → Stands i r → Stands j r → i ≡ j
    once i j r lo hi (inl one) (inl two) = sym one.2 ∙ (finer one.0 two.0 one.1 two.1 (one.3 ∙ sym two.3) ∙ two.2)
    once i j r lo hi (inl one) (inr two) = absurd (not_both i r one two.1)
    once i j r lo hi (inr one) (inl two) = absurd (not_both j r two one.1)
    once i j r lo hi (inr one) (inr two) = one.0 ∙ sym two.0

    more : length least + 1 ≤ length least2
    more = few (length least + 1) (length least2) Stands stands once

  -- so where it has no more numbers, it is the same one
  pub count_same : length least ≡ length least2 → (p q : ℕ) → p < n → q < n → number_in numbers p ≡ number_in numbers q → number_in numbers2 p ≡ number_in numbers2 q
  count_same equal p q low less together = by (cases_eq (number_in numbers2 p) (number_in numbers2 q))
    where
      by : (number_in numbers2 p ≡ number_in numbers2 q) ⊎ (number_in numbers2 p ≢ number_in numbers2 q) → number_in numbers2 p ≡ number_in numbers2 q
      by (inl same) = same
      by (inr apart) = absurd (let m = more p q low less together apart in omega arith)

-- each place of the rows has one
row_at : (rows : List (List ℕ)) (p : ℕ) → p < length rows → slice_get rows p ≡ Some (get_or rows p [])
row_at rows p low = slice_get-get_or rows p [] low

-- a split is finer
pub splits_finer : (numbers numbers2 : List ℕ) (rows : List (List ℕ)) → SplitsRows numbers numbers2 rows → (p q : ℕ) → p < length rows → q < length rows → number_in numbers2 p ≡ number_in numbers2 q → number_in numbers p ≡ number_in numbers q
splits_finer numbers numbers2 rows s p q low less e = (s.same p q (get_or rows p []) (get_or rows q []) (row_at rows p low) (row_at rows q less) e).0

-- A split as a round over a graph with these rows.
module _ (g : Graph ℕ) (n : ℕ) (rows : List (List ℕ)) (are : AreRows g n rows) (below : RowsBelow n rows) where
  pub rows_within : (p : ℕ) → p < n → EndsBelow n (g.arcs p)
  rows_within p low k a e = all_at (λ q. q < n) (nexts (g.arcs p)) k a.next (at_mapped (λ (b : Arc Cost ℕ). b.next) (g.arcs p) k a e) (below p (nexts (g.arcs p)) (are.row p low))

  splits_round : (numbers numbers2 : List ℕ) → SplitsRows numbers numbers2 rows → IsRound g n (number_in numbers) (number_in numbers2)
  splits_round numbers numbers2 s = record {
    same = λ p q low less e. s.same p q (nexts (g.arcs p)) (nexts (g.arcs q)) (are.row p low) (are.row q less) e;
    other = λ p q low less head ends. s.other p q (nexts (g.arcs p)) (nexts (g.arcs q)) (are.row p low) (are.row q less) head ends;
  }

  pub splits_refined : (numbers numbers2 : List ℕ) → SplitsRows numbers numbers2 rows → IsRefined g n (number_in numbers) → IsRefined g n (number_in numbers2)
  splits_refined numbers numbers2 s r = round_refined g n are.single are.goes are.ascend rows_within (number_in numbers) (number_in numbers2) r (splits_round numbers numbers2 s)

  -- where a split has no more numbers, the numbers tell the behaviour
  pub splits_last : (numbers least numbers2 least2 : List ℕ) → IsNumbering numbers least → IsNumbering numbers2 least2 → length numbers ≡ n → length numbers2 ≡ n → length least ≡ length least2
      → SplitsRows numbers numbers2 rows → IsRefined g n (number_in numbers) → TellsBehaviour g n numbers
  splits_last numbers least numbers2 least2 h k size size2 equal s r =
      let finer = λ (p q : ℕ) (low : p < n) (less : q < n) (e : number_in numbers2 p ≡ number_in numbers2 q). splits_finer numbers numbers2 rows s p q (let l = are.size in omega arith) (let l = are.size in omega arith) e in
      record {
        size = size;
        same = round_last g n are.single are.goes are.ascend rows_within (number_in numbers) (number_in numbers2) r (splits_round numbers numbers2 s) (count_same n numbers least numbers2 least2 h k size size2 finer equal);
        other = r.coarse;
      }
