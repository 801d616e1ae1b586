-- States that are numbered along an order: one more, and what the numbers tell.
use Rattle.std.proofs.Common.{◌≡◌, ◌≢◌, ◌⊎◌, inl, inr, ℕ, ◌<◌, zero, suc, Bool, true, false, true≢false, List, [], ◌∷◌, ◌++◌, Option, None, Some, IfSome, Result, Ok, Err, IfOk, length, map, get_or, set, replicate, slice_get, sym, refl, ap, ap₂, ◌∙◌, subst, arith}
use Rattle.std.proofs.lemmas.List.{get_or-set_same, get_or-set_other, length-set, length-map, length-replicate, map-append}
use Rattle.std.proofs.lemmas.Bool.{cases_eq}
use Rattle.std.proofs.lemmas.Option.{slice_get-get_or, slice_get_within, get_or_from_slice_get, same_Some}
use Rattle.fst_semiring.specs.Cost.{Cost}
use Rattle.fst_machine.specs.Machine.{Arc}
use Rattle.fst_machine.specs.Graph.{Graph, nexts}
use Rattle.fst_machine.specs.BreadthFirst.{Has}
use Rattle.fst_machine.proofs.Arcs.{at_append_left, at_mapped}
use Rattle.fst_machine.proofs.Elements.{at_Has, Has_at}
use Rattle.fst_distance.proofs.Lists.{push_at, push_last}
use Rattle.fst_minimize.specs.Along.{AreAlong, Before, IsWhole, Renumbers, seen_of}
use Rattle.fst_minimize.specs.Behaviour.{Alike}
use Rattle.fst_minimize.specs.Numbered.{AreRows, RowsBelow, TellsApart, TellsBehaviour, number_in}
use Rattle.fst_minimize.specs.Refining.{IsRefined, IsRound}
use Rattle.fst_minimize.proofs.Refining.{EndsBelow, alike_paired, paired_row, round_last}
use Rattle.fst_minimize.proofs.Splitting.{rows_within}

-- no state has a mark
no_mark : (n q : ℕ) → get_or (replicate n false) q false ≡ true → ⊥
no_mark zero q e = true≢false (sym e)
no_mark (suc n) zero e = true≢false (sym e)
no_mark (suc n) (suc q) e = no_mark n q e

pub along_none : (rows : List (List ℕ)) (n : ℕ) (along : List ℕ) → length rows ≡ n → AreAlong rows [] (replicate n 0) (replicate n false) along
along_none rows n along size = record {
  size = length-replicate n 0 ∙ sym size;
  sizes = length-replicate n false ∙ sym size;
  below = λ i q e. absurd cc;
  own = λ i q e. absurd cc;
  marked = λ i q e. absurd cc;
  ends = λ i q r e has. absurd cc;
  all = λ q e. absurd (no_mark n q e);
}

-- ---- one state more, with the number x, whose ends have marks

module _ (first : List ℕ) (rows : List (List ℕ)) (order numbers : List ℕ) (marks : List Bool) (along : List ℕ) (p x : ℕ) (low : p < length rows) (a : AreAlong rows order numbers marks along)
    (long : length along ≡ length order) (free : get_or marks p false ≡ true → ⊥) (ends : (r : ℕ) → Has (get_or rows p []) r → get_or marks r false ≡ true) where
  -- a state with a mark is another one
  other : (r : ℕ) → get_or marks r false ≡ true → r ≡ p → ⊥
  other r mark e = free (ap (λ (q : ℕ). get_or marks q false) (sym e) ∙ mark)

  number_kept : (r : ℕ) → get_or marks r false ≡ true → number_in (set numbers p x) r ≡ number_in numbers r
  number_kept r mark = get_or-set_other numbers p r x 0 (other r mark)

  row_kept : (states : List ℕ) → ((r : ℕ) → Has states r → get_or marks r false ≡ true) → map (number_in (set numbers p x)) states ≡ map (number_in numbers) states
  row_kept [] all = refl
  row_kept (r ∷ states) all = ap₂ (◌∷◌) (number_kept r (all r (inl refl))) (row_kept states (λ q has. all q (inr has)))

  -- what was numbered is the same
  seen_kept : (states : List ℕ) → ((q r : ℕ) → Has states q → Has (get_or rows q []) r → get_or marks r false ≡ true) → map (seen_of first rows (set numbers p x)) states ≡ map (seen_of first rows numbers) states
  seen_kept [] all = refl
  seen_kept (q ∷ states) all =
      let own : seen_of first rows (set numbers p x) q ≡ seen_of first rows numbers q = ap (λ (r : List ℕ). (number_in first q, r)) (row_kept (get_or rows q []) (λ r has. all q r (inl refl) has)) in
      ap₂ (◌∷◌) own (seen_kept states (λ s r has. all s r (inr has)))

  end_marked : (q r : ℕ) → Has order q → Has (get_or rows q []) r → get_or marks r false ≡ true
  end_marked q r has end =
      let at = Has_at order q has in
      let before = a.ends at.0 q r at.1 end in
      a.marked before.0 r before.2

  pub seen_push : map (seen_of first rows (set numbers p x)) (order ++ p ∷ []) ≡ map (seen_of first rows numbers) order ++ (number_in first p, map (number_in numbers) (get_or rows p [])) ∷ []
  seen_push = map-append (seen_of first rows (set numbers p x)) order (p ∷ [])
      ∙ ap₂ (λ seen r. seen ++ (number_in first p, r) ∷ []) (seen_kept order end_marked) (row_kept (get_or rows p []) ends)

  pub along_push : AreAlong rows (order ++ p ∷ []) (set numbers p x) (set marks p true) (along ++ x ∷ [])
  along_push = record {
    size = length-set numbers p x ∙ a.size;
    sizes = length-set marks p true ∙ a.sizes;
    below = below;
    own = own;
    marked = marked;
    ends = before;
    all = all;
  }
    where
      below : (i q : ℕ) → slice_get (order ++ p ∷ []) i ≡ Some q → q < length rows
      below i q e = by (push_at order p q i e)
        where
          by : (slice_get order i ≡ Some q) ⊎ ((i ≡ length order) × (p ≡ q)) → q < length rows
          by (inl old) = a.below i q old
          by (inr new) = subst (λ (s : ℕ). s < length rows) new.1 low

      own : (i q : ℕ) → slice_get (order ++ p ∷ []) i ≡ Some q → slice_get (along ++ x ∷ []) i ≡ Some (number_in (set numbers p x) q)
      own i q e = by (push_at order p q i e)
        where
          by : (slice_get order i ≡ Some q) ⊎ ((i ≡ length order) × (p ≡ q)) → slice_get (along ++ x ∷ []) i ≡ Some (number_in (set numbers p x) q)
          by (inl old) = at_append_left along (x ∷ []) i (number_in (set numbers p x) q) (a.own i q old ∙ ap Some (sym (number_kept q (a.marked i q old))))
          by (inr new) =
              let here : number_in (set numbers p x) q ≡ x = ap (number_in (set numbers p x)) (sym new.1) ∙ get_or-set_same numbers p x 0 (omega (arith, low, a.size)) in
              ap (slice_get (along ++ x ∷ [])) (new.0 ∙ sym long) ∙ (push_last along x ∙ ap Some (sym here))

      mark_kept : (q : ℕ) → get_or marks q false ≡ true → get_or (set marks p true) q false ≡ true
      mark_kept q mark = get_or-set_other marks p q true false (other q mark) ∙ mark

      marked : (i q : ℕ) → slice_get (order ++ p ∷ []) i ≡ Some q → get_or (set marks p true) q false ≡ true
      marked i q e = by (push_at order p q i e)
        where
          by : (slice_get order i ≡ Some q) ⊎ ((i ≡ length order) × (p ≡ q)) → get_or (set marks p true) q false ≡ true
          by (inl old) = mark_kept q (a.marked i q old)
          by (inr new) = ap (λ (s : ℕ). get_or (set marks p true) s false) (sym new.1) ∙ get_or-set_same marks p true false (omega (arith, low, a.sizes))

      later : (i q : ℕ) → Before order i q → Before (order ++ p ∷ []) i q
      later i q b = (b.0, b.1, at_append_left order (p ∷ []) b.0 q b.2)

      before : (i q r : ℕ) → slice_get (order ++ p ∷ []) i ≡ Some q → Has (get_or rows q []) r → Before (order ++ p ∷ []) i r
      before i q r e has = by (push_at order p q i e)
        where
          by : (slice_get order i ≡ Some q) ⊎ ((i ≡ length order) × (p ≡ q)) → Before (order ++ p ∷ []) i r
          by (inl old) = later i r (a.ends i q r old has)
          by (inr new) =
              let at = a.all r (ends r (subst (λ (s : ℕ). Has (get_or rows s []) r) (sym new.1) has)) in
              later i r (at.0, omega (arith, new.0, slice_get_within order at.0 r at.1), at.1)

      all : (q : ℕ) → get_or (set marks p true) q false ≡ true → (i : ℕ) × (slice_get (order ++ p ∷ []) i ≡ Some q)
      all q mark = by (cases_eq q p)
        where
          by : (q ≡ p) ⊎ (q ≢ p) → (i : ℕ) × (slice_get (order ++ p ∷ []) i ≡ Some q)
          by (inl same) = (length order, push_last order p ∙ ap Some (sym same))
          by (inr apart) =
              let at = a.all q (sym (get_or-set_other marks p q true false apart) ∙ mark) in
              (at.0, at_append_left order (p ∷ []) at.0 q at.1)

-- ---- all states

-- where all states have marks, their numbers tell apart what was numbered in place of them
pub along_whole : (first : List ℕ) (rows : List (List ℕ)) (order numbers : List ℕ) (marks : List Bool) (along : List ℕ) → AreAlong rows order numbers marks along → TellsApart (map (seen_of first rows numbers) order) along
    → ((q : ℕ) → q < length rows → get_or marks q false ≡ true) → IsWhole first rows order numbers
along_whole first rows order numbers marks along a t marked = record {
  size = a.size;
  place = λ q low. a.all q (marked q low);
  below = a.below;
  ends = a.ends;
  same = λ p q low less e.
      let i = a.all p (marked p low) in
      let j = a.all q (marked q less) in
      same_Some (seen_of first rows numbers p) (seen_of first rows numbers q)
      (sym (seen i.0 p i.1) ∙ (t.same i.0 j.0 (number_in numbers p) (a.own i.0 p i.1) (a.own j.0 q j.1 ∙ ap Some (sym e)) ∙ seen j.0 q j.1));
  other = λ p q low less e.
      let i = a.all p (marked p low) in
      let j = a.all q (marked q less) in
      t.other i.0 j.0 (number_in numbers p) (number_in numbers q) (a.own i.0 p i.1) (a.own j.0 q j.1) (seen i.0 p i.1 ∙ (ap Some e ∙ sym (seen j.0 q j.1)));
}
  where
    seen : (i q : ℕ) → slice_get order i ≡ Some q → slice_get (map (seen_of first rows numbers) order) i ≡ Some (seen_of first rows numbers q)
    seen i q e = at_mapped (seen_of first rows numbers) order i q e

-- Over a graph with these rows, all of whose states have numbers.
module _ (g : Graph ℕ) (first : List ℕ) (rows : List (List ℕ)) (order numbers : List ℕ) (are : AreRows g (length rows) rows) (below : RowsBelow (length rows) rows) (w : IsWhole first rows order numbers)
    (r : IsRefined g (length rows) (number_in first)) where
  row_is : (p : ℕ) → p < length rows → get_or rows p [] ≡ nexts (g.arcs p)
  row_is p low = get_or_from_slice_get rows p (nexts (g.arcs p)) [] (are.row p low)

  within : (p : ℕ) → p < length rows → EndsBelow (length rows) (g.arcs p)
  within = rows_within g (length rows) rows are below

  -- states of equal behaviour have one number, where those that stand before the one have
  coarse_step : (i p q : ℕ) → slice_get order i ≡ Some p → q < length rows → Alike g g p q
      → ((j a b : ℕ) → j < i → slice_get order j ≡ Some a → b < length rows → Alike g g a b → number_in numbers a ≡ number_in numbers b) → number_in numbers p ≡ number_in numbers q
  coarse_step i p q there less alike earlier = w.other p q low less (ap₂ (λ (h : ℕ) (t : List ℕ). (h, t)) (r.coarse p q low less alike) rows_same)
    where
      low : p < length rows
      low = w.below i p there

      ends : (k : ℕ) (a b : Arc Cost ℕ) → slice_get (g.arcs p) k ≡ Some a → slice_get (g.arcs q) k ≡ Some b → Alike g g a.next b.next → number_in numbers a.next ≡ number_in numbers b.next
      ends k a b e f tied =
          let has : Has (nexts (g.arcs p)) a.next = at_Has (nexts (g.arcs p)) k a.next (at_mapped (λ (c : Arc Cost ℕ). c.next) (g.arcs p) k a e) in
          let before = w.ends i p a.next there (subst (λ (states : List ℕ). Has states a.next) (sym (row_is p low)) has) in
          earlier before.0 a.next b.next before.1 before.2 (within q less k b f) tied

      rows_same : map (number_in numbers) (get_or rows p []) ≡ map (number_in numbers) (get_or rows q [])
      rows_same = ap (map (number_in numbers)) (row_is p low)
          ∙ (paired_row (Alike g g) (number_in numbers) (g.arcs p) (g.arcs q) ends (alike_paired g (length rows) are.single are.goes are.ascend within p q low less alike) ∙ ap (map (number_in numbers)) (sym (row_is q less)))

  coarse_at : (m i p q : ℕ) → i < m → slice_get order i ≡ Some p → q < length rows → Alike g g p q → number_in numbers p ≡ number_in numbers q
  coarse_at zero i p q early there less alike = absurd (omega (arith, early))
  coarse_at (suc m) i p q early there less alike = coarse_step i p q there less alike (λ j a b before at low tied. coarse_at m j a b (omega (arith, before, early)) at low tied)

  whole_refined : IsRefined g (length rows) (number_in numbers)
  whole_refined = record {
    coarse = λ p q low less alike. let at = w.place p low in coarse_at (suc at.0) at.0 p q (omega arith) at.1 less alike;
    finals = λ p q low less e. r.finals p q low less (ap (λ (s : ℕ × List ℕ). s.0) (w.same p q low less e));
    letters = λ p q low less e. r.letters p q low less (ap (λ (s : ℕ × List ℕ). s.0) (w.same p q low less e));
  }

  whole_round : IsRound g (length rows) (number_in numbers) (number_in numbers)
  whole_round = record {
    same = λ p q low less e. (e, ap (map (number_in numbers)) (sym (row_is p low)) ∙ (ap (λ (s : ℕ × List ℕ). s.1) (w.same p q low less e) ∙ ap (map (number_in numbers)) (row_is q less)));
    other = λ p q low less head ends. head;
  }

  pub whole_tells : TellsBehaviour g (length rows) numbers
  whole_tells = record {
    size = w.size;
    same = round_last g (length rows) are.single are.goes are.ascend within (number_in numbers) (number_in numbers) whole_refined whole_round (λ p q low less e. e);
    other = whole_refined.coarse;
  }

-- ---- numbers by first places

-- other numbers for the same classes tell the same
pub renumbered_tells : (g : Graph ℕ) (n : ℕ) (numbers numbers2 : List ℕ) → Renumbers n numbers numbers2 → TellsBehaviour g n numbers → TellsBehaviour g n numbers2
renumbered_tells g n numbers numbers2 again t = record {
  size = again.size;
  same = λ p q low less e. t.same p q low less ((again.same p q low less).0 e);
  other = λ p q low less alike. (again.same p q low less).1 (t.other p q low less alike);
}

-- a number alone, as it is numbered again
abbrev pub alone : ℕ → ℕ × List ℕ
alone v = (v, [])

pub again_renumbers : (numbers numbers2 : List ℕ) → TellsApart (map alone numbers) numbers2 → Renumbers (length numbers) numbers numbers2
again_renumbers numbers numbers2 t = record {
  size = size;
  same = λ p q low less. (
    (λ e.
        let tells = t.same p q (number_in numbers2 p) (new p low) (new q less ∙ ap Some (sym e)) in
        ap (λ (s : ℕ × List ℕ). s.0) (same_Some (alone (number_in numbers p)) (alone (number_in numbers q)) (sym (old p low) ∙ (tells ∙ old q less)))),
    (λ e. t.other p q (number_in numbers2 p) (number_in numbers2 q) (new p low) (new q less) (old p low ∙ (ap (λ (v : ℕ). Some (alone v)) e ∙ sym (old q less)))),
  );
}
  where
    size : length numbers2 ≡ length numbers
    size = t.size ∙ length-map numbers alone

    new : (p : ℕ) → p < length numbers → slice_get numbers2 p ≡ Some (number_in numbers2 p)
    new p low = slice_get-get_or numbers2 p 0 (omega (arith, low, size))

    old : (p : ℕ) → p < length numbers → slice_get (map alone numbers) p ≡ Some (alone (number_in numbers p))
    old p low = at_mapped alone numbers p (number_in numbers p) (slice_get-get_or numbers p 0 low)

-- what an answer that there may be is, by two things that are said of it
pub both_some : {X E : Type 0} (r : Result (Option X) E) (P Q R : X → Type 0) → ((x : X) → P x → Q x → R x) → IfOk r (λ o. IfSome o P) → IfOk r (λ o. IfSome o Q) → IfOk r (λ o. IfSome o R)
both_some (Ok (Some x)) P Q R from one two = from x one two
both_some (Ok None) P Q R from one two = tt
both_some (Err e) P Q R from one two = tt
