-- Sorting the arcs of each state keeps the successful paths, one to one.
use Rattle.std.proofs.Common.{◌≡◌, ◌⊎◌, inl, inr, ℕ, ◌<◌, ◌≤◌, Bool, true, List, [], Some, filter, length, map, slice_get, is_lt, nat_cmp, refl, sym, ap, ◌∙◌, subst, arith}
use Rattle.std.specs.List.Sorted.{IsStableByKey, ties}
use Rattle.std.proofs.lemmas.Bool.{cases_lt, eq-eqb}
use Rattle.std.proofs.lemmas.Option.{same_Some}
use Rattle.fst_semiring.specs.Cost.{Cost}
use Rattle.fst_semiring.specs.declared.arc_type.ArcType.{ArcType}
use Rattle.fst_machine.specs.Machine.{Arc, Machine, valued, valued_arc}
use Rattle.fst_machine.specs.Graph.{graph_of}
use Rattle.fst_trim.specs.declared.side.Side.{Side}
use Rattle.fst_trim.specs.Sides.{label_of}
use Rattle.fst_trim.specs.Sorting.{IsArcSorted, IsMovedPlace, SortsPaths, has_label}
use Rattle.fst_trim.proofs.Looking.{look, look_past}
use Rattle.fst_trim.proofs.OneToOne.{TiesArcs, tied_one_to_one}
use Rattle.fst_trim.proofs.Ranks.{rank, rank_at, rank_from, rank_once, ties_is}
use Rattle.fst_trim.proofs.Rearranged.{read_inside, rearranged_serves, sorted_is_rearranged, turned}
use Rattle.fst_trim.proofs.Valued.{stable_sort_valued}

-- the arcs with each label are the same in both lists, in order
AreAlike : Side → List (Arc Cost ℕ) → List (Arc Cost ℕ) → Type 0
AreAlike side arcs new = (a : Arc Cost ℕ) → filter (has_label side (label_of side a)) new ≡ filter (has_label side (label_of side a)) arcs

alike_from : (side : Side) (arcs new : List (Arc Cost ℕ)) → IsStableByKey (label_of side) nat_cmp arcs new → AreAlike side arcs new
unfolding AreAlike
alike_from side arcs new stable a =
    let same : ◌≡◌ {A = Arc Cost ℕ → Bool} (ties (λ (x y : Arc Cost ℕ). is_lt (nat_cmp (label_of side x) (label_of side y))) a) (has_label side (label_of side a)) = λ i b. ties_is (label_of side a) (label_of side b) i in
    ap (λ (p : Arc Cost ℕ → Bool). filter p new) (sym same) ∙ (stable a ∙ ap (λ (p : Arc Cost ℕ → Bool). filter p arcs) same)

alike_back : (side : Side) (arcs new : List (Arc Cost ℕ)) → AreAlike side arcs new → AreAlike side new arcs
unfolding AreAlike
alike_back side arcs new same a = sym (same a)

-- an arc has its place in the other list
moved_place : (side : Side) (arcs new : List (Arc Cost ℕ)) → AreAlike side arcs new → (k : ℕ) (a : Arc Cost ℕ) → slice_get arcs k ≡ Some a → (j : ℕ) × (slice_get new j ≡ Some a) × IsMovedPlace side arcs new k j
unfolding AreAlike
moved_place side arcs new same k a there =
    let p : Arc Cost ℕ → Bool = has_label side (label_of side a) in
    let own : p a ≡ true = eq-eqb (label_of side a) (label_of side a) refl in
    let at = rank_from p new (rank p arcs k) a (ap (λ (zs : List (Arc Cost ℕ)). slice_get zs (rank p arcs k)) (same a) ∙ rank_at p arcs k a there own) in
    (at.0, at.1, record { arc = a; was = there; is = at.1; same = at.2 })

-- seen from the other side
moved_back : (side : Side) (arcs new : List (Arc Cost ℕ)) (k j : ℕ) → IsMovedPlace side new arcs j k → IsMovedPlace side arcs new k j
moved_back side arcs new k j h = record { arc = h.arc; was = h.is; is = h.was; same = sym h.same }

-- and just one
moved_once : (side : Side) (arcs new : List (Arc Cost ℕ)) (k j i : ℕ) → IsMovedPlace side arcs new k j → IsMovedPlace side arcs new k i → j ≡ i
moved_once side arcs new k j i h g =
    let arc : g.arc ≡ h.arc = same_Some g.arc h.arc (sym g.was ∙ h.was) in
    let p : Arc Cost ℕ → Bool = has_label side (label_of side h.arc) in
    let own : p h.arc ≡ true = eq-eqb (label_of side h.arc) (label_of side h.arc) refl in
    let other : rank p new i ≡ rank p arcs k = subst (λ (a : Arc Cost ℕ). rank (has_label side (label_of side a)) new i ≡ rank (has_label side (label_of side a)) arcs k) arc g.same in
    rank_once p new j i h.arc h.arc h.is (g.is ∙ ap Some arc) own own (h.same ∙ sym other)

module _ {V : Type 0} (value : V → Cost) (side : Side) (m c : Machine V) (h : IsArcSorted side m c) where
  -- the arcs with each label, at each state
  alike_at : (p : ℕ) → AreAlike side ((graph_of (valued value m)).arcs p) ((graph_of (valued value c)).arcs p)
  unfolding AreAlike
  alike_at p = by_place (cases_lt p (length m.states))
    where
      by_place : (p < length m.states) ⊎ (length m.states ≤ p) → AreAlike side ((graph_of (valued value m)).arcs p) ((graph_of (valued value c)).arcs p)
      by_place (inl low) =
          let s = read_inside m.states p low in
          let t = read_inside c.states p (omega (arith, h.size)) in
          let sorted = stable_sort_valued value side s.0.arcs t.0.arcs (h.arcs p s.0 t.0 s.1 t.1) in
          subst (λ (zs : List (Arc Cost ℕ)). AreAlike side zs ((graph_of (valued value c)).arcs p)) (sym (look value m p s.0 s.1).0) (subst (λ (zs : List (Arc Cost ℕ)). AreAlike side (map (valued_arc value) s.0.arcs) zs) (sym (look value c p t.0 t.1).0) (alike_from side (map (valued_arc value) s.0.arcs) (map (valued_arc value) t.0.arcs) sorted.stable))
      by_place (inr past) =
          subst (λ (zs : List (Arc Cost ℕ)). AreAlike side zs ((graph_of (valued value c)).arcs p)) (sym (look_past value m p past).0) (subst (λ (zs : List (Arc Cost ℕ)). AreAlike side [] zs) (sym (look_past value c p (omega (arith, h.size))).0) (λ a. refl))

  abbrev At : ℕ → ℕ → ℕ → ℕ → Type 0
  At p q = IsMovedPlace side ((graph_of (valued value m)).arcs p) ((graph_of (valued value c)).arcs q)

  sorted_ties : TiesArcs (λ (p q : ℕ). p ≡ q) At (graph_of (valued value m)) (graph_of (valued value c))
  sorted_ties = record {
    start = (rearranged_serves value m c (sorted_is_rearranged side m c h)).start;
    arcs = λ p q k a tied has reaches.
        let new = moved_place side ((graph_of (valued value m)).arcs p) ((graph_of (valued value c)).arcs q) (subst (λ (r : ℕ). AreAlike side ((graph_of (valued value m)).arcs p) ((graph_of (valued value c)).arcs r)) tied (alike_at p)) k a has in
        (new.0, a, new.1, refl, refl, new.2);
    final = (rearranged_serves value m c (sorted_is_rearranged side m c h)).final;
  }

  back_ties : TiesArcs (λ (q p : ℕ). p ≡ q) (λ (q p j k : ℕ). At p q k j) (graph_of (valued value c)) (graph_of (valued value m))
  back_ties = record {
    start = λ q starts reaches. (q, sym h.start ∙ starts, refl);
    arcs = λ q p j a tied has reaches.
        let old = moved_place side ((graph_of (valued value c)).arcs q) ((graph_of (valued value m)).arcs p) (subst (λ (r : ℕ). AreAlike side ((graph_of (valued value c)).arcs q) ((graph_of (valued value m)).arcs r)) (sym tied) (alike_back side _ _ (alike_at q))) j a has in
        (old.0, a, old.1, refl, refl, moved_back side _ _ old.0 j old.2);
    final = λ q p tied. (rearranged_serves value c m (turned m c (sorted_is_rearranged side m c h))).final q p (sym tied);
  }

  -- sorting keeps the successful paths
  pub sorted_paths : (kind : ArcType) → SortsPaths kind side (valued value m) (valued value c)
  sorted_paths kind = tied_one_to_one (λ (p q : ℕ). p ≡ q) At (graph_of (valued value m)) (graph_of (valued value c)) sorted_ties back_ties
      (record { place = λ p q r k j i one two at other. moved_once side ((graph_of (valued value m)).arcs p) ((graph_of (valued value c)).arcs q) k j i at (subst (λ (s : ℕ). At p s k i) (sym two ∙ one) other) })
      (record { place = λ q p r j k i one two at other. moved_once side ((graph_of (valued value c)).arcs q) ((graph_of (valued value m)).arcs p) j k i (moved_back side _ _ j k at) (moved_back side _ _ j i (subst (λ (s : ℕ). At s q i j) (two ∙ sym one) other)) })
      kind
