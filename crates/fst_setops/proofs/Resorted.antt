-- The difference is the same where the arcs of the second machine are put in order.
use Rattle.std.proofs.Common.{◌≡◌, ◌⊎◌, inl, inr, ℕ, ◌<◌, ◌≤◌, zero, suc, Bool, true, false, cond, List, [], ◌∷◌, Option, None, Some, filter, length, map, nat_eq, get_or, refl, sym, ap, ◌∙◌, subst, arith}
use Rattle.std.specs.Option.{option_map}
use Rattle.std.proofs.lemmas.Bool.{cases_lt}
use Rattle.std.proofs.lemmas.List.{get_or_past}
use Rattle.std.proofs.lemmas.Option.{get_or_from_slice_get}
use Rattle.fst_semiring.specs.Cost.{Cost, infinite, is_infinite}
use Rattle.fst_machine.specs.Graph.{Graph, graph_of, no_state}
use Rattle.fst_machine.specs.Machine.{Arc, Machine, State, valued}
use Rattle.fst_trim.specs.Sides.{IsSortedOn, StandsBy}
use Rattle.fst_trim.specs.Sorting.{IsArcSorted, IsStableSort}
use Rattle.fst_trim.specs.declared.side.Side.TheVariants.{Input}
use Rattle.fst_trim.proofs.Ranks.{ties_is}
use Rattle.fst_trim.proofs.Rearranged.{read_inside}
use Rattle.fst_trim.proofs.Valued.{IsArcSorted-valued}
use Rattle.fst_setops.specs.Difference.{difference, followed, is_final, next_by, subtraction}

-- whether an arc reads this label
has_label : {M : Type 0} → ℕ → Arc Cost M → Bool
has_label label a = nat_eq a.ilabel label

-- where the first of a list leads
first_next : {M : Type 0} → List (Arc Cost M) → Option M
first_next [] = None
first_next (a ∷ arcs) = Some a.next

-- a label leads where the first of the arcs with it leads
next_by_filter : {M : Type 0} (label : ℕ) (arcs : List (Arc Cost M)) → next_by label arcs ≡ first_next (filter (has_label label) arcs)
unfolding has_label first_next
next_by_filter label [] = refl
next_by_filter {M} label (a ∷ arcs) = by_test (nat_eq a.ilabel label) (next_by_filter label arcs)
  where
    by_test : (t : Bool) → next_by label arcs ≡ first_next (filter (has_label label) arcs) → cond t (Some a.next) (next_by label arcs) ≡ first_next (cond t (a ∷ filter (has_label label) arcs) (filter (has_label label) arcs))
    by_test true more = refl
    by_test false more = more

-- so it leads to the same place among arcs that were put in order
next_by_sorted : (label : ℕ) (arcs new : List (Arc Cost ℕ)) → IsStableSort Input arcs new → next_by label arcs ≡ next_by label new
unfolding has_label first_next
next_by_sorted label arcs new h = next_by_filter label arcs ∙ (ap first_next (sym same) ∙ sym (next_by_filter label new))
  where
    with_label : Arc Cost ℕ
    with_label = record { ilabel = label; olabel = label; weight = infinite; next = 0 }

    same : filter (has_label label) new ≡ filter (has_label label) arcs
    same = subst (λ (p : Arc Cost ℕ → Bool). filter p new ≡ filter p arcs) (λ i a. ties_is label a.ilabel i) (h.stable with_label)

-- where starts, labels and final weights of the second graph are the same, so is the difference
same_difference : {N M : Type 0} (a : Graph N) (b c : Graph M) → b.start ≡ c.start → ((q : M) (label : ℕ) → next_by label (b.arcs q) ≡ next_by label (c.arcs q)) → ((q : M) → b.final q ≡ c.final q)
    → difference a b ≡ difference a c
same_difference {N} {M} a b c start next final = λ i. record {
  start = option_map (λ (p : N). record { first = p; second = start i }) a.start;
  arcs = λ n. map (λ (x : Arc Cost N). record { ilabel = x.ilabel; olabel = x.olabel; weight = x.weight; next = record { first = x.next; second = follows x.ilabel n.second i } }) (a.arcs n.first);
  final = λ n. cond (ends n.second i) infinite (a.final n.first);
}
  where
    follows : (label : ℕ) (s : Option M) → followed b label s ≡ followed c label s
    follows zero s = refl
    follows (suc l) None = refl
    follows (suc l) (Some q) = next q (suc l)

    ends : (s : Option M) → is_final b s ≡ is_final c s
    ends None = refl
    ends (Some q) = ap (λ (w : Cost). cond (is_infinite w) false true) (final q)

module _ (b c : Machine Cost) (h : IsArcSorted Input b c) where
  -- what both have in a place
  record Both (q : ℕ) : Type 0 where
    arcs : (label : ℕ) → next_by label ((graph_of b).arcs q) ≡ next_by label ((graph_of c).arcs q)
    final : (graph_of b).final q ≡ (graph_of c).final q

  both : (q : ℕ) → Both q
  both q = by_place (cases_lt q (length b.states))
    where
      by_place : (q < length b.states) ⊎ (length b.states ≤ q) → Both q
      by_place (inl low) =
          let s = read_inside b.states q low in
          let t = read_inside c.states q (omega (arith, low, h.size)) in
          let old : get_or b.states q no_state ≡ s.0 = get_or_from_slice_get b.states q s.0 no_state s.1 in
          let new : get_or c.states q no_state ≡ t.0 = get_or_from_slice_get c.states q t.0 no_state t.1 in
          record {
            arcs = λ label. ap (λ (u : State Cost). next_by label u.arcs) old ∙ (next_by_sorted label s.0.arcs t.0.arcs (h.arcs q s.0 t.0 s.1 t.1) ∙ sym (ap (λ (u : State Cost). next_by label u.arcs) new));
            final = ap (λ (u : State Cost). u.final) old ∙ (sym (h.final q s.0 t.0 s.1 t.1) ∙ sym (ap (λ (u : State Cost). u.final) new));
          }
      by_place (inr high) =
          let same : get_or b.states q no_state ≡ get_or c.states q no_state = get_or_past b.states q no_state high ∙ sym (get_or_past c.states q no_state (omega (arith, high, h.size))) in
          record { arcs = λ label. ap (λ (u : State Cost). next_by label u.arcs) same; final = ap (λ (u : State Cost). u.final) same }

-- the difference of machines, of which the second was put in order
pub sorted_subtraction : {V : Type 0} (value : V → Cost) (a b c : Machine V) → IsArcSorted Input b c → subtraction value a c ≡ subtraction value a b
sorted_subtraction value a b c h =
    let sorted = IsArcSorted-valued value Input b c h in
    sym (same_difference (graph_of (valued value a)) (graph_of (valued value b)) (graph_of (valued value c)) (sym sorted.start) (λ q. (both (valued value b) (valued value c) sorted q).arcs) (λ q. (both (valued value b) (valued value c) sorted q).final))

-- the machine that was put in order has its arcs in order
pub sorted_stands : {V : Type 0} (b c : Machine V) → IsArcSorted Input b c → IsSortedOn Input c
sorted_stands {V} b c h k d low =
    let s = read_inside b.states k (omega (arith, low, h.size)) in
    let t = read_inside c.states k low in
    subst (λ (u : State V). StandsBy Input u.arcs) (sym (get_or_from_slice_get c.states k t.0 d t.1)) (h.arcs k s.0 t.0 s.1 t.1).stands
