-- What holds of a machine holds of the machine with each weight as its value.
use Rattle.std.proofs.Common.{◌≡◌, ◌↔◌, ℕ, ◌+◌, Bool, true, false, cond, List, [], ◌∷◌, Some, get_or, map, map-id, slice_get, sum_by, count_by, filter, refl, sym, ap, ◌∙◌, subst, arith, is_lt, nat_cmp}
use Rattle.std.specs.List.Sorted.{IsPermutation, IsStableByKey, ties}
use Rattle.std.specs.Bool.{Decides}
use Rattle.std.specs.Option.{option_map}
use Rattle.std.proofs.lemmas.List.{length-map, nil_from_length}
use Rattle.std.proofs.lemmas.List.Folds.{fold-map}
use Rattle.std.proofs.lemmas.List.Sorted.{IsPermutation-map, length_permutation}
use Rattle.std.proofs.lemmas.Option.{slice_get_within, slice_get-get_or, get_or_from_slice_get}
use Rattle.fst_semiring.specs.Cost.{Cost, infinite}
use Rattle.fst_semiring.specs.declared.arc_type.ArcType.{ArcType}
use Rattle.fst_machine.specs.Machine.{Arc, State, Machine, arc_total, valued, valued_arc, valued_state}
use Rattle.fst_machine.specs.Graph.{graph_of}
use Rattle.fst_machine.specs.Cycles.{IsAccessible, IsCoaccessible, IsUseful}
use Rattle.fst_machine.proofs.Arcs.{mapped_some, mapped_at, at_mapped}
use Rattle.fst_machine.proofs.Valued.{arc_total-valued}
use Rattle.fst_trim.specs.declared.side.Side.{Side}
use Rattle.fst_trim.specs.declared.side.Side.TheVariants.{Input, Output}
use Rattle.fst_trim.specs.declared.summary.Info.{Info}
use Rattle.fst_trim.specs.Sides.{StandsBy, IsSortedOn, label_of}
use Rattle.fst_trim.specs.FirstArcs.{HasTwoLabels, HasEarlier, Repeats, Meets, IsAcceptor, IsDeterministic}
use Rattle.fst_trim.specs.Sorting.{IsStableSort, IsArcSorted}
use Rattle.fst_trim.specs.Counted.{IsCount, IsInfo, arcs_with, has_input_epsilon, has_output_epsilon, has_both_epsilons}

-- each arc has its labels in the same place of the other list
record IsLabelledAs {V W : Type 0} (arcs : List (Arc V ℕ)) (others : List (Arc W ℕ)) : Type 0 where
  at : (place : ℕ) (a : Arc V ℕ) → slice_get arcs place ≡ Some a → (b : Arc W ℕ) × (slice_get others place ≡ Some b) × ((side : Side) → label_of side a ≡ label_of side b)

module _ {V W : Type 0} {arcs : List (Arc V ℕ)} {others : List (Arc W ℕ)} (same : IsLabelledAs arcs others) where
  -- it stands by them where the other does
  like_stands : (side : Side) → StandsBy side others → StandsBy side arcs
  like_stands side h i j d le low =
      let a = same.at i (get_or arcs i d) (slice_get-get_or arcs i d (omega arith)) in
      let b = same.at j (get_or arcs j d) (slice_get-get_or arcs j d low) in
      let first = ap (label_of side) (get_or_from_slice_get others i a.0 a.0 a.1) in
      let second = ap (label_of side) (get_or_from_slice_get others j b.0 a.0 b.1) in
      omega (arith, a.2 side, b.2 side, first, second, h i j a.0 le (slice_get_within others j b.0 b.1))

  module _ (place : ℕ) where
    -- an arc with two labels is one of the other too
    like_two_labels : HasTwoLabels arcs place → HasTwoLabels others place
    like_two_labels h =
        let b = same.at place h.arc h.there in
        record { arc = b.0; there = b.1; differ = λ e. h.differ (b.2 Input ∙ (e ∙ sym (b.2 Output))) }

    -- and so is one with an input label
    like_earlier : (label : ℕ) → HasEarlier arcs place label → HasEarlier others place label
    like_earlier label h =
        let b = same.at h.earlier h.arc h.there in
        record { earlier = h.earlier; arc = b.0; before = h.before; there = b.1; same = sym (b.2 Input) ∙ h.same }

    -- and one whose input label is repeated
    like_repeats : Repeats arcs place → Repeats others place
    like_repeats h =
        let b = same.at place h.arc h.there in
        record { arc = b.0; there = b.1; repeated = subst (HasEarlier others place) (b.2 Input) (like_earlier h.arc.ilabel h.repeated) }

-- each state has its labels in the same state of the other machine
record IsLabelledFrom {V W : Type 0} (c : Machine V) (m : Machine W) : Type 0 where
  at : (p : ℕ) (t : State V) → slice_get c.states p ≡ Some t → (s : State W) × (slice_get m.states p ≡ Some s) × IsLabelledAs t.arcs s.arcs

module _ {V W : Type 0} {c : Machine V} {m : Machine W} (same : IsLabelledFrom c m) where
  -- where a property of arcs goes over to arcs with the labels, it is met in the other machine too
  like_meets : (P : List (Arc V ℕ) → ℕ → Type 0) (Q : List (Arc W ℕ) → ℕ → Type 0) → ((arcs : List (Arc V ℕ)) (others : List (Arc W ℕ)) → IsLabelledAs arcs others → (place : ℕ) → P arcs place → Q others place)
      → (state place : ℕ) → Meets P c state place → Meets Q m state place
  like_meets P Q onto state place h =
      let t = mapped_some (λ (t : State V). t.arcs) (slice_get c.states state) h.arcs h.has in
      let s = same.at state t.0 t.1 in
      record { arcs = s.0.arcs; has = ap (option_map (λ (s : State W). s.arcs)) s.1; holds = onto t.0.arcs s.0.arcs s.2 place (subst (λ (arcs : List (Arc V ℕ)). P arcs place) (sym t.2) h.holds) }

  -- it is an acceptor where the other is
  like_acceptor : IsAcceptor m → IsAcceptor c
  like_acceptor none state place h = none state place (like_meets HasTwoLabels HasTwoLabels (λ _ _ one. like_two_labels one) state place h)

  -- and deterministic
  like_deterministic : IsDeterministic m → IsDeterministic c
  like_deterministic none state place h = none state place (like_meets Repeats Repeats (λ _ _ one. like_repeats one) state place h)

  -- and sorted
  like_sorted : (side : Side) → IsSortedOn side m → IsSortedOn side c
  like_sorted side h k d low =
      let s = same.at k (get_or c.states k d) (slice_get-get_or c.states k d low) in
      let there = get_or_from_slice_get m.states k s.0 s.0 s.1 in
      like_stands s.2 side (subst (λ (s : State W). StandsBy side s.arcs) there (h k s.0 (slice_get_within m.states k s.0 s.1)))

-- the tests of a list that is mapped are the tests of the list
filter-mapped : {X Y : Type 0} (f : X → Y) (p : Y → Bool) (q : X → Bool) → ((x : X) → p (f x) ≡ q x) → (xs : List X) → filter p (map f xs) ≡ map f (filter q xs)
filter-mapped f p q same [] = refl
filter-mapped {X} f p q same (x ∷ xs) = rw (same x, filter-mapped f p q same xs) (by_test (q x) (filter q xs))
  where
    by_test : (b : Bool) (kept : List X) → cond b (f x ∷ map f kept) (map f kept) ≡ map f (cond b (x ∷ kept) kept)
    by_test true kept = refl
    by_test false kept = refl

module _ {V : Type 0} (value : V → Cost) where
  -- an arc keeps its labels
  same_label : (side : Side) (a : Arc V ℕ) → label_of side (valued_arc value a) ≡ label_of side a
  same_label Input a = refl
  same_label Output a = refl

  -- a list with values has the labels of the list
  values_labelled : (arcs : List (Arc V ℕ)) → IsLabelledAs (map (valued_arc value) arcs) arcs
  values_labelled arcs = record { at = λ place b there. let a = mapped_at (valued_arc value) arcs place b there in (a.0, a.1, λ side. ap (label_of side) (sym a.2) ∙ same_label side a.0) }

  -- and the other way round
  labelled_values : (arcs : List (Arc V ℕ)) → IsLabelledAs arcs (map (valued_arc value) arcs)
  labelled_values arcs = record { at = λ place a there. (valued_arc value a, at_mapped (valued_arc value) arcs place a there, λ side. sym (same_label side a)) }

  -- so has a machine
  values_from : (m : Machine V) → IsLabelledFrom (valued value m) m
  values_from m = record { at = λ p t there. let s = mapped_at (valued_state value) m.states p t there in (s.0, s.1, subst (λ (t : State Cost). IsLabelledAs t.arcs s.0.arcs) s.2 (values_labelled s.0.arcs)) }

  -- and the other way round
  from_values : (m : Machine V) → IsLabelledFrom m (valued value m)
  from_values m = record { at = λ p s there. (valued_state value s, at_mapped (valued_state value) m.states p s there, labelled_values s.arcs) }

  -- the arc with the labels of another and this weight
  abbrev weighing : V → Arc Cost ℕ → Arc V ℕ
  weighing w x = record { ilabel = x.ilabel; olabel = x.olabel; weight = w; next = x.next }

  -- the label of the other is the same, as a stable sort asks
  abbrev tied : {W : Type 0} → Side → Arc W ℕ → Arc W ℕ → Bool
  tied side = ties (λ x y. is_lt (nat_cmp (label_of side x) (label_of side y)))

  -- it ties with the same arcs
  same_ties : (side : Side) (x : Arc Cost ℕ) (w : V) (y : Arc V ℕ) → tied side x (valued_arc value y) ≡ tied side (weighing w x) y
  same_ties Input x w y = refl
  same_ties Output x w y = refl

  -- equal labels keep their order
  stable_valued : (side : Side) (arcs new : List (Arc V ℕ)) → IsPermutation arcs new → IsStableByKey (label_of side) nat_cmp arcs new → IsStableByKey (label_of side) nat_cmp (map (valued_arc value) arcs) (map (valued_arc value) new)
  stable_valued side [] new same stable x = ap (λ (arcs : List (Arc V ℕ)). filter (tied side x) (map (valued_arc value) arcs)) (nil_from_length new (length_permutation [] new same))
  stable_valued side (a ∷ arcs) new same stable x =
      let mapped = filter-mapped (valued_arc value) (tied side x) (tied side (weighing a.weight x)) (same_ties side x a.weight) in
      mapped new ∙ (ap (map (valued_arc value)) (stable (weighing a.weight x)) ∙ sym (mapped (a ∷ arcs)))

  -- so the values are the stable sort of the values
  pub stable_sort_valued : (side : Side) (arcs new : List (Arc V ℕ)) → IsStableSort side arcs new → IsStableSort side (map (valued_arc value) arcs) (map (valued_arc value) new)
  stable_sort_valued side arcs new h = record {
    same = IsPermutation-map (valued_arc value) arcs new h.same;
    stands = like_stands (values_labelled new) side h.stands;
    stable = stable_valued side arcs new h.same h.stable;
  }

  -- what holds of the values of two states in one place
  states_valued : (P : State Cost → State Cost → Type 0) (m c : Machine V) (p : ℕ) → ((s t : State V) → slice_get m.states p ≡ Some s → slice_get c.states p ≡ Some t → P (valued_state value s) (valued_state value t))
      → (s t : State Cost) → slice_get (valued value m).states p ≡ Some s → slice_get (valued value c).states p ≡ Some t → P s t
  states_valued P m c p h s t one two =
      let u = mapped_at (valued_state value) m.states p s one in
      let v = mapped_at (valued_state value) c.states p t two in
      subst (P s) v.2 (subst (λ (s : State Cost). P s (valued_state value v.0)) u.2 (h u.0 v.0 u.1 v.1))

-- a machine with its arcs in order
pub IsArcSorted-valued : {V : Type 0} (value : V → Cost) (side : Side) (m c : Machine V) → IsArcSorted side m c → IsArcSorted side (valued value m) (valued value c)
IsArcSorted-valued value side m c h = record {
  start = h.start;
  size = length-map c.states (valued_state value) ∙ (h.size ∙ sym (length-map m.states (valued_state value)));
  final = λ p. states_valued value (λ s t. t.final ≡ s.final) m c p (λ s t one two. ap value (h.final p s t one two));
  arcs = λ p. states_valued value (λ s t. IsStableSort side s.arcs t.arcs) m c p (λ s t one two. stable_sort_valued value side s.arcs t.arcs (h.arcs p s t one two));
}

module _ {V : Type 0} (value : V → Cost) where
  -- the sum over the arcs of each state
  sum_valued : (f : State Cost → ℕ) (g : State V → ℕ) → ((s : State V) → f (valued_state value s) ≡ g s) → (states : List (State V)) → sum_by f (map (valued_state value) states) ≡ sum_by g states
  sum_valued f g same states = fold-map (λ n s. n + f s) (valued_state value) 0 states ∙ ap (λ (g : State V → ℕ). sum_by g states) (λ i s. same s i)

  -- as many arcs
  total_valued : (m : Machine V) → arc_total (valued value m).states ≡ arc_total m.states
  total_valued m = arc_total-valued value m.states

  -- and as many that pass a test
  arcs_with_valued : (p : Arc Cost ℕ → Bool) (m : Machine V) → arcs_with p (valued value m) ≡ arcs_with (λ a. p (valued_arc value a)) m
  arcs_with_valued p m = sum_valued (λ s. count_by p s.arcs) (λ s. count_by (λ a. p (valued_arc value a)) s.arcs) (λ s. fold-map (λ n a. n + cond (p a) 1 0) (valued_arc value) 0 s.arcs) m.states

-- costs are their own values
pub valued_costs : (m : Machine Cost) → m ≡ valued (λ w. w) m
valued_costs m = ap (λ (states : List (State Cost)). record { start = m.start; states = states }) (sym (ap (λ (f : State Cost → State Cost). map f m.states) (λ i s. record { final = s.final; arcs = map-id s.arcs i }) ∙ map-id m.states))

-- a test of one property decides another that holds where it does
decided : {P Q : Type 0} (r : Bool) → (P → Q) → (Q → P) → Decides r P → Decides r Q
decided r to from d = (λ e. to (d.0 e), λ q. d.1 (from q))

-- what is said of a machine
-- the arcs stand by their labels with their weights or with the values of these
pub IsSortedOn-valued : {V : Type 0} (value : V → Cost) (side : Side) (m : Machine V) → IsSortedOn side m ↔ IsSortedOn side (valued value m)
IsSortedOn-valued value side m = (like_sorted (values_from value m) side, like_sorted (from_values value m) side)

-- and an arc with two labels, or with the input label of an earlier one, is in the same place
pub two_labels-valued : {V : Type 0} (value : V → Cost) (m : Machine V) (state place : ℕ) → Meets HasTwoLabels m state place ↔ Meets HasTwoLabels (valued value m) state place
two_labels-valued value m state place =
    (like_meets (from_values value m) HasTwoLabels HasTwoLabels (λ _ _ one. like_two_labels one) state place, like_meets (values_from value m) HasTwoLabels HasTwoLabels (λ _ _ one. like_two_labels one) state place)

pub repeats-valued : {V : Type 0} (value : V → Cost) (m : Machine V) (state place : ℕ) → Meets Repeats m state place ↔ Meets Repeats (valued value m) state place
repeats-valued value m state place =
    (like_meets (from_values value m) Repeats Repeats (λ _ _ one. like_repeats one) state place, like_meets (values_from value m) Repeats Repeats (λ _ _ one. like_repeats one) state place)

pub IsInfo-valued : {V : Type 0} (kind : ArcType) (value : V → Cost) (m : Machine V) (i : Info) → IsInfo kind value m i → IsInfo kind (λ w. w) (valued value m) i
IsInfo-valued kind value m i h =
    let again = valued_costs (valued value m) in
    let to = values_from value m in
    let back = from_values value m in
    record {
      arc_type = h.arc_type;
      states = h.states ∙ sym (length-map m.states (valued_state value));
      arcs = h.arcs ∙ sym (total_valued value m);
      start = h.start;
      final_states = subst (λ (c : Machine Cost). IsCount (λ p. (graph_of c).final p ≡ infinite → ⊥) i.final_states) again h.final_states;
      input_epsilons = h.input_epsilons ∙ sym (arcs_with_valued value has_input_epsilon m);
      output_epsilons = h.output_epsilons ∙ sym (arcs_with_valued value has_output_epsilon m);
      both_epsilons = h.both_epsilons ∙ sym (arcs_with_valued value has_both_epsilons m);
      accessible = subst (λ (c : Machine Cost). IsCount (IsAccessible (graph_of c)) i.accessible) again h.accessible;
      coaccessible = subst (λ (c : Machine Cost). IsCount (IsCoaccessible (graph_of c)) i.coaccessible) again h.coaccessible;
      connected = subst (λ (c : Machine Cost). IsCount (IsUseful (graph_of c)) i.connected) again h.connected;
      acceptor = decided i.acceptor (like_acceptor to) (like_acceptor back) h.acceptor;
      input_sorted = decided i.input_sorted (like_sorted to Input) (like_sorted back Input) h.input_sorted;
      output_sorted = decided i.output_sorted (like_sorted to Output) (like_sorted back Output) h.output_sorted;
      deterministic = decided i.deterministic (like_deterministic to) (like_deterministic back) h.deterministic;
    }
