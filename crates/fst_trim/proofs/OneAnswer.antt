-- The machine with its arcs in order is one, and one thing is said of a machine.
use Rattle.std.proofs.Common.{◌≡◌, ◌⊎◌, inl, inr, ℕ, suc, ◌<◌, ◌≤◌, Bool, true, false, cond, not, ◌&&◌, List, [], ◌∷◌, Option, None, Some, filter, length, get_or, is_lt, nat_cmp, refl, sym, ap, ◌∙◌, subst, arith}
use Rattle.std.specs.List.Sorted.{IsNonDecreasingBy}
use Rattle.std.proofs.lemmas.Bool.{cases_lt, eq-eqb}
use Rattle.std.proofs.lemmas.Bool.Decides.{same_from_decides}
use Rattle.std.proofs.lemmas.Option.{get_or_from_slice_get}
use Rattle.fst_semiring.specs.Cost.{Cost}
use Rattle.fst_semiring.specs.declared.arc_type.ArcType.{ArcType}
use Rattle.fst_machine.specs.BreadthFirst.{Has, Precedes}
use Rattle.fst_machine.specs.Machine.{Arc, State, Machine}
use Rattle.fst_machine.specs.declared.path.Step.{Step}
use Rattle.fst_machine.proofs.Elements.{Apart_within, Has_at}
use Rattle.fst_machine.proofs.OneMachine.{one_list, one_state, one_whole}
use Rattle.fst_trim.specs.Counted.{IsCount, IsInfo}
use Rattle.fst_trim.specs.FirstArcs.{IsFirstArc}
use Rattle.fst_trim.specs.Sides.{label_of}
use Rattle.fst_trim.specs.Sorting.{IsArcSorted, IsStableSort}
use Rattle.fst_trim.specs.declared.side.Side.{Side}
use Rattle.fst_trim.specs.declared.summary.Info.{Info}
use Rattle.fst_trim.proofs.Ranks.{ties_is}
use Rattle.fst_trim.proofs.Rearranged.{read_inside}

-- ---- lists in order

Has-filter : {X : Type 0} (p : X → Bool) (xs : List X) (x : X) → Has (filter p xs) x → Has xs x
Has-filter p [] x has = absurd has
Has-filter {X} p (y ∷ xs) x has = by (p y) has (λ more. Has-filter p xs x more)
  where
    by : (b : Bool) → Has (cond b (y ∷ filter p xs) (filter p xs)) x → (Has (filter p xs) x → Has xs x) → Has (y ∷ xs) x
    by true (inl e) more = inl e
    by true (inr h) more = inr (more h)
    by false h more = inr (more h)

module _ {X : Type 0} (key : X → ℕ) where
  -- whether two have one key
  alike : X → X → Bool
  alike x y = not (is_lt (nat_cmp (key x) (key y))) && not (is_lt (nat_cmp (key y) (key x)))

  alike_of_same : (x y : X) → key x ≡ key y → alike x y ≡ true
  unfolding alike
  alike_of_same x y same = ties_is (key x) (key y) ∙ eq-eqb (key y) (key x) (sym same)

  -- those alike to the first, which is the first of them
  first_alike : (x y : X) (ys : List X) → key x ≡ key y → filter (alike x) (y ∷ ys) ≡ y ∷ filter (alike x) ys
  first_alike x y ys same = ap (λ (b : Bool). cond b (y ∷ filter (alike x) ys) (filter (alike x) ys)) (alike_of_same x y same)

  tail_in_order : (x : X) (xs : List X) → IsNonDecreasingBy key (x ∷ xs) → IsNonDecreasingBy key xs
  tail_in_order x xs up i j d le low = up (suc i) (suc j) d (omega (arith, le)) (omega (arith, low))

  least : (x : X) (xs : List X) → IsNonDecreasingBy key (x ∷ xs) → (y : X) → Has (x ∷ xs) y → key x ≤ key y
  least x xs up y (inl e) = omega (arith, ap key e)
  least x xs up y (inr has) =
      let at = Has_at xs y has in
      let here : get_or xs at.0 y ≡ y = get_or_from_slice_get xs at.0 y y at.1 in
      subst (λ (z : X). key x ≤ key z) here (up 0 (suc at.0) y (omega arith) (omega (arith, at.2)))

  -- the least of one list stands in the other
  among : (x : X) (xs ys : List X) → filter (alike x) (x ∷ xs) ≡ filter (alike x) ys → Has ys x
  among x xs ys same = Has-filter (alike x) ys x (subst (λ (zs : List X). Has zs x) same (subst (λ (zs : List X). Has zs x) (sym (first_alike x x xs refl)) (inl refl)))

  -- lists in order, in which those with one key stand in one order
  one_order : (xs ys : List X) → IsNonDecreasingBy key xs → IsNonDecreasingBy key ys → ((x : X) → filter (alike x) xs ≡ filter (alike x) ys) → xs ≡ ys
  one_order [] [] up rise same = refl
  one_order [] (y ∷ ys) up rise same = absurd (among y ys [] (sym (same y)))
  one_order (x ∷ xs) [] up rise same = absurd (among x xs [] (same x))
  one_order (x ∷ xs) (y ∷ ys) up rise same =
      let low = least y ys rise x (among x xs (y ∷ ys) (same x)) in
      let high = least x xs up y (among y ys (x ∷ xs) (sym (same y))) in
      let keys : key x ≡ key y = omega (arith, low, high) in
      let heads : x ∷ filter (alike x) xs ≡ y ∷ filter (alike x) ys = sym (first_alike x x xs refl) ∙ (same x ∙ first_alike x y ys keys) in
      let first : x ≡ y = cc in
      rw (first, one_order xs ys (tail_in_order x xs up) (tail_in_order y ys rise) (λ z. rest first z (alike z x) refl)) refl
    where
      rest : x ≡ y → (z : X) (b : Bool) → alike z x ≡ b → filter (alike z) xs ≡ filter (alike z) ys
      rest first z b e = by b (sym left ∙ (same z ∙ right))
        where
          left : filter (alike z) (x ∷ xs) ≡ cond b (x ∷ filter (alike z) xs) (filter (alike z) xs)
          left = ap (λ (c : Bool). cond c (x ∷ filter (alike z) xs) (filter (alike z) xs)) e

          right : filter (alike z) (y ∷ ys) ≡ cond b (y ∷ filter (alike z) ys) (filter (alike z) ys)
          right = ap (λ (c : Bool). cond c (y ∷ filter (alike z) ys) (filter (alike z) ys)) (ap (alike z) (sym first) ∙ e)

          by : (c : Bool) → cond c (x ∷ filter (alike z) xs) (filter (alike z) xs) ≡ cond c (y ∷ filter (alike z) ys) (filter (alike z) ys) → filter (alike z) xs ≡ filter (alike z) ys
          by true same = cc
          by false same = same

-- ---- a machine with its arcs in order

one_sort : {V : Type 0} (side : Side) (arcs new others : List (Arc V ℕ)) → IsStableSort side arcs new → IsStableSort side arcs others → new ≡ others
unfolding alike
one_sort side arcs new others one two = one_order (label_of side) new others one.stands two.stands (λ a. one.stable a ∙ sym (two.stable a))

pub one_sorted : {V : Type 0} (side : Side) (m c d : Machine V) → IsArcSorted side m c → IsArcSorted side m d → c ≡ d
one_sorted {V} side m c d one two = one_whole c d (one.start ∙ sym two.start) (one_list c.states d.states (one.size ∙ sym two.size) at)
  where
    at : (i : ℕ) (e : State V) → i < length c.states → get_or c.states i e ≡ get_or d.states i e
    at i e low =
        let s = read_inside m.states i (omega (arith, low, one.size)) in
        let t = read_inside c.states i low in
        let u = read_inside d.states i (omega (arith, low, one.size, two.size)) in
        let final : t.0.final ≡ u.0.final = one.final i s.0 t.0 s.1 t.1 ∙ sym (two.final i s.0 u.0 s.1 u.1) in
        let arcs : t.0.arcs ≡ u.0.arcs = one_sort side s.0.arcs t.0.arcs u.0.arcs (one.arcs i s.0 t.0 s.1 t.1) (two.arcs i s.0 u.0 s.1 u.1) in
        get_or_from_slice_get c.states i t.0 e t.1 ∙ (one_state t.0 u.0 final arcs ∙ sym (get_or_from_slice_get d.states i u.0 e u.1))

-- ---- what is said of a machine

one_count : (P : ℕ → Type 0) (n k : ℕ) → IsCount P n → IsCount P k → n ≡ k
one_count P n k one two =
    let low = Apart_within one.names two.names one.apart (λ p has. (two.are p).1 ((one.are p).0 has)) in
    let high = Apart_within two.names one.names two.apart (λ p has. (one.are p).1 ((two.are p).0 has)) in
    omega (arith, low, high, one.many, two.many)

pub one_described : {V : Type 0} (kind : ArcType) (value : V → Cost) (m : Machine V) (i j : Info) → IsInfo kind value m i → IsInfo kind value m j → i ≡ j
one_described kind value m i j one two = same
    (one.arc_type ∙ sym two.arc_type) (one.states ∙ sym two.states) (one.arcs ∙ sym two.arcs) (one.start ∙ sym two.start)
    (one_count _ i.final_states j.final_states one.final_states two.final_states) (one.input_epsilons ∙ sym two.input_epsilons) (one.output_epsilons ∙ sym two.output_epsilons) (one.both_epsilons ∙ sym two.both_epsilons)
    (one_count _ i.accessible j.accessible one.accessible two.accessible) (one_count _ i.coaccessible j.coaccessible one.coaccessible two.coaccessible) (one_count _ i.connected j.connected one.connected two.connected)
    (same_from_decides i.acceptor j.acceptor one.acceptor two.acceptor) (same_from_decides i.input_sorted j.input_sorted one.input_sorted two.input_sorted)
    (same_from_decides i.output_sorted j.output_sorted one.output_sorted two.output_sorted) (same_from_decides i.deterministic j.deterministic one.deterministic two.deterministic)
  where
    same : i.arc_type ≡ j.arc_type → i.states ≡ j.states → i.arcs ≡ j.arcs → i.start ≡ j.start → i.final_states ≡ j.final_states
        → i.input_epsilons ≡ j.input_epsilons → i.output_epsilons ≡ j.output_epsilons → i.both_epsilons ≡ j.both_epsilons
        → i.accessible ≡ j.accessible → i.coaccessible ≡ j.coaccessible → i.connected ≡ j.connected
        → i.acceptor ≡ j.acceptor → i.input_sorted ≡ j.input_sorted → i.output_sorted ≡ j.output_sorted → i.deterministic ≡ j.deterministic
        → ◌≡◌ {A = Info}
        (record {
          arc_type = i.arc_type;
          states = i.states;
          arcs = i.arcs;
          start = i.start;
          final_states = i.final_states;
          input_epsilons = i.input_epsilons;
          output_epsilons = i.output_epsilons;
          both_epsilons = i.both_epsilons;
          accessible = i.accessible;
          coaccessible = i.coaccessible;
          connected = i.connected;
          acceptor = i.acceptor;
          input_sorted = i.input_sorted;
          output_sorted = i.output_sorted;
          deterministic = i.deterministic;
        })
        (record {
          arc_type = j.arc_type;
          states = j.states;
          arcs = j.arcs;
          start = j.start;
          final_states = j.final_states;
          input_epsilons = j.input_epsilons;
          output_epsilons = j.output_epsilons;
          both_epsilons = j.both_epsilons;
          accessible = j.accessible;
          coaccessible = j.coaccessible;
          connected = j.connected;
          acceptor = j.acceptor;
          input_sorted = j.input_sorted;
          output_sorted = j.output_sorted;
          deterministic = j.deterministic;
        })
    same arc_type states arcs start final_states input_epsilons output_epsilons both_epsilons accessible coaccessible connected acceptor input_sorted output_sorted deterministic = cc

-- ---- the first arc with a property

one_step : (s t : Step) → (Precedes s.state s.place t.state t.place → ⊥) → (Precedes t.state t.place s.state s.place → ⊥) → s ≡ t
one_step s t first second = ap (λ (n : ℕ). step n s.place) state ∙ ap (step t.state) place
  where
    step : ℕ → ℕ → Step
    step state place = record { state = state; place = place }

    state : s.state ≡ t.state
    state = by (cases_lt s.state t.state) (cases_lt t.state s.state)
      where
        by : (s.state < t.state) ⊎ (t.state ≤ s.state) → (t.state < s.state) ⊎ (s.state ≤ t.state) → s.state ≡ t.state
        by (inl low) more = absurd (first (inl low))
        by (inr high) (inl low) = absurd (second (inl low))
        by (inr high) (inr low) = omega (arith, high, low)

    place : s.place ≡ t.place
    place = by (cases_lt s.place t.place) (cases_lt t.place s.place)
      where
        by : (s.place < t.place) ⊎ (t.place ≤ s.place) → (t.place < s.place) ⊎ (s.place ≤ t.place) → s.place ≡ t.place
        by (inl low) more = absurd (first (inr (state, low)))
        by (inr high) (inl low) = absurd (second (inr (sym state, low)))
        by (inr high) (inr low) = omega (arith, high, low)

pub one_first_arc : {V : Type 0} (P : List (Arc V ℕ) → ℕ → Type 0) (m : Machine V) (a b : Option Step) → IsFirstArc P m a → IsFirstArc P m b → a ≡ b
one_first_arc P m None None one two = refl
one_first_arc P m None (Some t) one two = absurd (one t.state t.place two.0)
one_first_arc P m (Some s) None one two = absurd (two s.state s.place one.0)
one_first_arc P m (Some s) (Some t) one two = ap Some (one_step s t (λ p. two.1 s.state s.place p one.0) (λ p. one.1 t.state t.place p two.0))
