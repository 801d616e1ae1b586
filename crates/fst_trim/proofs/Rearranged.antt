-- A machine with the arcs of each state in another order.
use Rattle.std.proofs.Common.{◌≡◌, ◌⊎◌, ◌↔◌, inl, inr, ℕ, ◌+◌, ◌<◌, ◌≤◌, List, [], ◌∷◌, ◌++◌, Option, None, Some, length, get_or, take, slice_get, refl, sym, ap, ◌∙◌, subst, arith}
use Rattle.std.specs.List.{All}
use Rattle.std.specs.List.Sorted.{IsPermutation}
use Rattle.std.specs.Option.{option_map, IfSome}
use Rattle.std.proofs.lemmas.Bool.{cases_lt}
use Rattle.std.proofs.lemmas.List.{length-append}
use Rattle.std.proofs.lemmas.List.Sorted.{IsPermutation-sym, Contains-permutation, All-permutation, length_permutation}
use Rattle.std.proofs.lemmas.List.Sums.{sum_by_more, sum_by_push, sum_by-take-le}
use Rattle.std.proofs.lemmas.List.{take_all}
use Rattle.std.proofs.lemmas.Option.{slice_get_within, slice_get_cases, slice_get-get_or, get_or_from_slice_get}
use Rattle.fst_semiring.specs.Cost.{Cost}
use Rattle.fst_semiring.specs.declared.arc_type.ArcType.{ArcType}
use Rattle.fst_machine.specs.Machine.{Arc, State, Machine, IsArc, IsMachine, arc_total, valued}
use Rattle.fst_machine.specs.Graph.{graph_of}
use Rattle.fst_machine.specs.Relation.{Rel}
use Rattle.fst_machine.specs.Serving.{Serves}
use Rattle.fst_machine.proofs.Arcs.{mapped_some, append_at}
use Rattle.fst_machine.proofs.Serving.{served-Rel}
use Rattle.fst_trim.specs.declared.side.Side.{Side}
use Rattle.fst_trim.specs.Sorting.{IsArcSorted, IsStableSort}
use Rattle.fst_trim.proofs.Looking.{look, look_past, arc_from, arc_there}

-- an element of a list that is put in another order
moved_to : {X : Type 0} (xs ys : List X) (k : ℕ) (x : X) → IsPermutation xs ys → slice_get xs k ≡ Some x → (j : ℕ) × (slice_get ys j ≡ Some x)
moved_to xs ys k x same there =
    let at = Contains-permutation xs ys x same (k, slice_get_within xs k x there, get_or_from_slice_get xs k x x there) in
    (at.0, slice_get-get_or ys at.0 x at.1 ∙ ap Some at.2)

-- what is read inside a list
pub read_inside : {X : Type 0} (xs : List X) (p : ℕ) → p < length xs → (x : X) × (slice_get xs p ≡ Some x)
read_inside {X} xs p low = by_case (slice_get_cases xs p).1
  where
    by_case : ((x : X) × (p < length xs) × (slice_get xs p ≡ Some x) × (get_or xs p x ≡ x)) ⊎ ((length xs ≤ p) × (slice_get xs p ≡ None)) → (x : X) × (slice_get xs p ≡ Some x)
    by_case (inl x) = (x.0, x.2)
    by_case (inr past) = absurd (omega (arith, past.0))

-- the arcs of each state in some order, and all else as it was
pub record IsRearranged {V : Type 0} (m c : Machine V) : Type 0 where
  pub start : c.start ≡ m.start
  pub size : length c.states ≡ length m.states
  pub final : (p : ℕ) (s t : State V) → slice_get m.states p ≡ Some s → slice_get c.states p ≡ Some t → t.final ≡ s.final
  pub arcs : (p : ℕ) (s t : State V) → slice_get m.states p ≡ Some s → slice_get c.states p ≡ Some t → IsPermutation s.arcs t.arcs

pub turned : {V : Type 0} (m c : Machine V) → IsRearranged m c → IsRearranged c m
turned m c r = record {
  start = sym r.start;
  size = sym r.size;
  final = λ p s t one two. sym (r.final p t s two one);
  arcs = λ p s t one two. IsPermutation-sym t.arcs s.arcs (r.arcs p t s two one);
}

module _ {V : Type 0} (value : V → Cost) where
  pub rearranged_serves : (m c : Machine V) → IsRearranged m c → Serves (λ (p q : ℕ). p ≡ q) (graph_of (valued value m)) (graph_of (valued value c))
  rearranged_serves m c r = record {
    start = λ n starts reaches. (n, r.start ∙ starts, refl);
    arcs = λ n n' k a tied has reaches.
        let from = arc_from value m n k a has in
        let low : n < length c.states = omega (arith, slice_get_within m.states n from.0 from.2, r.size) in
        let t = read_inside c.states n low in
        let place = moved_to from.0.arcs t.0.arcs k from.1 (r.arcs n from.0 t.0 from.2 t.1) from.3 in
        let there = arc_there value c n place.0 t.0 from.1 t.1 place.1 in
        (place.0, a, ap (λ (q : ℕ). slice_get ((graph_of (valued value c)).arcs q) place.0) (sym tied) ∙ (there ∙ ap Some from.4), refl, refl);
    final = λ n n' tied. ap (graph_of (valued value c)).final (sym tied) ∙ finals n (cases_lt n (length m.states));
  }
    where
      finals : (n : ℕ) → (n < length m.states) ⊎ (length m.states ≤ n) → (graph_of (valued value c)).final n ≡ (graph_of (valued value m)).final n
      finals n (inl low) =
          let s = read_inside m.states n low in
          let t = read_inside c.states n (omega (arith, r.size)) in
          (look value c n t.0 t.1).1 ∙ (ap value (r.final n s.0 t.0 s.1 t.1) ∙ sym (look value m n s.0 s.1).1)
      finals n (inr past) = (look_past value c n (omega (arith, r.size))).1 ∙ sym (look_past value m n past).1

  pub rearranged-Rel : (m c : Machine V) → IsRearranged m c → (kind : ArcType) (x y : List ℕ) (w : Cost) → Rel kind (graph_of (valued value m)) x y w ↔ Rel kind (graph_of (valued value c)) x y w
  rearranged-Rel m c r kind x y w = (served-Rel _ (graph_of (valued value m)) (graph_of (valued value c)) (rearranged_serves m c r) kind x y w, served-Rel _ (graph_of (valued value c)) (graph_of (valued value m)) (rearranged_serves c m (turned m c r)) kind x y w)

  -- it is a machine
  pub rearranged_machine : (m c : Machine V) → IsRearranged m c → arc_total c.states ≤ arc_total m.states → IsMachine value m → IsMachine value c
  rearranged_machine m c r few h = record {
    start = start_in c.start refl;
    arcs = λ k d low. good k (get_or c.states k d) (slice_get-get_or c.states k d low);
    few_states = omega (arith, h.few_states, r.size);
    few_arcs = omega (arith, h.few_arcs);
  }
    where
      start_in : (start : Option ℕ) → c.start ≡ start → IfSome start (λ s. s < length c.states)
      start_in None e = tt
      start_in (Some i) e = subst (λ (n : ℕ). i < n) (sym r.size) (subst (λ (o : Option ℕ). IfSome o (λ s. s < length m.states)) (sym r.start ∙ e) h.start)

      good : (k : ℕ) (t : State V) → slice_get c.states k ≡ Some t → All (IsArc value (length c.states)) t.arcs
      good k t there =
          let low : k < length m.states = omega (arith, slice_get_within c.states k t there, r.size) in
          let s = read_inside m.states k low in
          let old : All (IsArc value (length m.states)) s.0.arcs = subst (λ (u : State V). All (IsArc value (length m.states)) u.arcs) (get_or_from_slice_get m.states k s.0 s.0 s.1) (h.arcs k s.0 low) in
          subst (λ (n : ℕ). All (IsArc value n) t.arcs) (sym r.size) (All-permutation (IsArc value (length m.states)) s.0.arcs t.arcs (r.arcs k s.0 t s.1 there) old)

pub sorted_is_rearranged : {V : Type 0} (side : Side) (m c : Machine V) → IsArcSorted side m c → IsRearranged m c
sorted_is_rearranged side m c h = record { start = h.start; size = h.size; final = h.final; arcs = λ p s t one two. (h.arcs p s t one two).same }

-- the first states with their arcs in order
pub record SortedSoFar {V : Type 0} (side : Side) (old new : List (State V)) (k : ℕ) : Type 0 where
  pub size : length new ≡ k
  pub few : arc_total new ≤ arc_total (take k old)
  pub final : (p : ℕ) (s t : State V) → slice_get old p ≡ Some s → slice_get new p ≡ Some t → t.final ≡ s.final
  pub arcs : (p : ℕ) (s t : State V) → slice_get old p ≡ Some s → slice_get new p ≡ Some t → IsStableSort side s.arcs t.arcs

module _ {V : Type 0} (side : Side) (old new : List (State V)) (k : ℕ) (w : V) (arcs sorted : List (Arc V ℕ)) (f : SortedSoFar side old new k) (final : option_map (λ s. s.final) (slice_get old k) ≡ Some w) (has : option_map (λ s. s.arcs) (slice_get old k) ≡ Some arcs) (is : IsStableSort side arcs sorted) where
  total_more : arc_total (take (k + 1) old) ≡ arc_total (take k old) + length arcs
  total_more =
      let s = mapped_some (λ (s : State V). s.arcs) (slice_get old k) arcs has in
      let at : get_or old k s.0 ≡ s.0 = get_or_from_slice_get old k s.0 s.0 s.1 in
      sum_by_more (λ (t : State V). length t.arcs) old k s.0 (slice_get_within old k s.0 s.1) ∙ ap (λ (n : ℕ). arc_total (take k old) + n) (ap (λ (t : State V). length t.arcs) at ∙ ap length s.2)

  pub sort_room : (n : ℕ) → arc_total old ≤ n → arc_total new + length sorted ≤ n
  sort_room n most =
      let cut = sum_by-take-le (λ (t : State V). length t.arcs) old (k + 1) in
      let size = length_permutation arcs sorted is.same in
      omega (arith, f.few, total_more)

  pub sort_more : (more : List (State V)) → more ≡ new ++ record { final = w; arcs = sorted } ∷ [] → SortedSoFar side old more (k + 1)
  sort_more more put = record {
    size = ap length put ∙ (length-append new (record { final = w; arcs = sorted } ∷ []) ∙ ap (λ (n : ℕ). n + 1) f.size);
    few = omega (arith, f.few, total_more, length_permutation arcs sorted is.same, total);
    final = λ p s t one two. (at p s t one (append_at new (state ∷ []) p t (ap (λ (ss : List (State V)). slice_get ss p) (sym put) ∙ two))).0;
    arcs = λ p s t one two. (at p s t one (append_at new (state ∷ []) p t (ap (λ (ss : List (State V)). slice_get ss p) (sym put) ∙ two))).1;
  }
    where
      state : State V
      state = record { final = w; arcs = sorted }

      total : arc_total more ≡ arc_total new + length sorted
      total = ap arc_total put ∙ sum_by_push (λ (t : State V). length t.arcs) new (record { final = w; arcs = sorted })

      here : (s t : State V) → slice_get old k ≡ Some s → ◌≡◌ {A = State V} (record { final = w; arcs = sorted }) t → (t.final ≡ s.final) × IsStableSort side s.arcs t.arcs
      here s t there e =
          let last = mapped_some (λ (s : State V). s.final) (slice_get old k) w final in
          let own = mapped_some (λ (s : State V). s.arcs) (slice_get old k) arcs has in
          let one : Some last.0 ≡ Some s = sym last.1 ∙ there in
          let two : Some own.0 ≡ Some s = sym own.1 ∙ there in
          let same_last : last.0 ≡ s = cc in
          let same_own : own.0 ≡ s = cc in
          let weight : w ≡ s.final = sym last.2 ∙ ap (λ (u : State V). u.final) same_last in
          let listed : arcs ≡ s.arcs = sym own.2 ∙ ap (λ (u : State V). u.arcs) same_own in
          (ap (λ (u : State V). u.final) (sym e) ∙ weight, subst (λ (u : State V). IsStableSort side s.arcs u.arcs) e (subst (λ (zs : List (Arc V ℕ)). IsStableSort side zs sorted) listed is))

      at : (p : ℕ) (s t : State V) → slice_get old p ≡ Some s → (slice_get new p ≡ Some t) ⊎ ((j : ℕ) × (slice_get {X = State V} (record { final = w; arcs = sorted } ∷ []) j ≡ Some t) × (p ≡ length new + j)) → (t.final ≡ s.final) × IsStableSort side s.arcs t.arcs
      at p s t one (inl before) = (f.final p s t one before, f.arcs p s t one before)
      at p s t one (inr last) =
          let low : last.0 < 1 = slice_get_within {A = State V} (record { final = w; arcs = sorted } ∷ []) last.0 t last.1 in
          let none : last.0 ≡ 0 = omega arith in
          let place : p ≡ k = omega (arith, last.2, f.size) in
          let first : ◌≡◌ {A = Option (State V)} (Some (record { final = w; arcs = sorted })) (Some t) = ap (slice_get {X = State V} (record { final = w; arcs = sorted } ∷ [])) (sym none) ∙ last.1 in
          here s t (ap (slice_get old) (sym place) ∙ one) (cc)

-- all of them
pub sort_ends : {V : Type 0} (side : Side) (m c : Machine V) (k : ℕ) → length m.states ≤ k → k ≤ length m.states → c.start ≡ m.start → SortedSoFar side m.states c.states k → IsArcSorted side m c × (arc_total c.states ≤ arc_total m.states)
sort_ends {V} side m c k done low start f = (record { start = start; size = omega (arith, f.size); final = f.final; arcs = f.arcs }, subst (λ (ss : List (State V)). arc_total c.states ≤ arc_total ss) (take_all k m.states done) f.few)
