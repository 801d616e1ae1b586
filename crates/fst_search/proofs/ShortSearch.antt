-- A short search: places, and how distances are handed on.
use Rattle.std.proofs.Common.{◌≡◌, ◌⊎◌, inl, inr, ℕ, ◌+◌, ◌<◌, ◌≤◌, zero, suc, Bool, true, false, List, [], ◌∷◌, ◌++◌, Option, None, Some, if◌then◌else◌, eqb, eqb-true, eq-eqb, length, map, set, take, get_or, slice_get, sym, refl, ap, ◌∙◌, subst, arith}
use Rattle.std.proofs.lemmas.Bool.{cases_Bool, cases_eq, cases_lt}
use Rattle.std.proofs.lemmas.List.{get_or_append_left, get_or_past, get_or_push, get_or-set_other, get_or-set_same, map-append, map-set, take_all, take_more}
use Rattle.std.proofs.Math.Seq.{map-set_same}
use Rattle.std.proofs.lemmas.Option.{get_or_from_slice_get, same_Some, slice_get_within}
use Rattle.fst_semiring.specs.Cost.{Cost, infinite}
use Rattle.fst_semiring.specs.declared.arc_type.ArcType.{ArcType}
use Rattle.fst_semiring.specs.Semiring.{one_of, times, InRange, IsCost}
use Rattle.fst_semiring.proofs.Laws.{one_not_zero, one_times, times_zero}
use Rattle.fst_semiring.proofs.OfKind.{IsCost-one}
use Rattle.fst_semiring.proofs.Order.{plus_same, plus_trans}
use Rattle.fst_semiring.proofs.Ranges.{Within-one}
use Rattle.fst_machine.specs.BreadthFirst.{Apart, Has}
use Rattle.fst_machine.proofs.Arcs.{append_at, at_append_left, at_append_right, at_mapped, mapped_at}
use Rattle.fst_machine.proofs.Elements.{Apart_below, Has-append_cases, Has_at}
use Rattle.fst_trim.specs.Links.{Link}
use Rattle.fst_search.specs.Beginning.{IsOnly}
use Rattle.fst_search.specs.Closure.{Reached}
use Rattle.fst_search.specs.Hops.{Hop, Arrives, IsHop, NoWorse, link_hop}
use Rattle.fst_search.specs.Near.{ArePlaced, Gives, HasNoPlaces, IsMet, Keeps, Offered, ShortSearch, costs_of, distance_by, names_of, one_at, place_of}
use Rattle.fst_search.proofs.Looking.{Has-map, read_Has}
use Rattle.fst_search.proofs.Order.{before_infinite}
use Rattle.fst_search.proofs.Rounds.{arrives_on}

-- ---- places

strictly : (a b : ℕ) → a ≤ b → (a ≡ b → ⊥) → a + 1 ≤ b
strictly a b most differ = by_order (cases_lt a b)
  where
    by_order : (a < b) ⊎ (b ≤ a) → a + 1 ≤ b
    by_order (inl low) = omega (arith, low)
    by_order (inr high) = absurd (differ (omega (arith, most, high)))

-- numbers that have places of their own are apart
pub apart_by : (P : ℕ → ℕ) (k : ℕ) (names : List ℕ) → ((i q : ℕ) → slice_get names i ≡ Some q → P q ≡ k + i) → Apart names
apart_by P k [] at = tt
apart_by P k (x ∷ names) at = (new, apart_by P (k + 1) names (λ i q e. at (suc i) q e ∙ (let same : k + suc i ≡ k + 1 + i = omega arith in same)))
  where
    new : Has names x → ⊥
    new h =
        let there = Has_at names x h in
        let one = at 0 x refl in
        let two = at (suc there.0) x there.1 in
        omega (arith, one, two)

module _ (places names : List ℕ) (are : ArePlaced places names) where
  -- each place is one of the list
  pub place_low : (q : ℕ) → place_of places q ≤ length names
  place_low q = by (place_of places q) refl
    where
      by : (k : ℕ) → place_of places q ≡ k → place_of places q ≤ length names
      by zero e = omega (arith, e)
      by (suc i) e = let next : suc i ≡ i + 1 = omega arith in let low = slice_get_within names i q (are.listed q i (e ∙ next)) in omega (arith, low, e)

  -- no two states have one place
  pub place_one : (i p q : ℕ) → place_of places p ≡ i + 1 → place_of places q ≡ i + 1 → p ≡ q
  place_one i p q one two = same_Some p q (sym (are.listed p i one) ∙ are.listed q i two)

  module _ (state : ℕ) (low : state < length places) (new : place_of places state ≡ 0) where
    abbrev now : List ℕ
    now = set places state (length names + 1)

    now_here : place_of now state ≡ length names + 1
    now_here = get_or-set_same places state (length names + 1) 0 low

    now_other : (q : ℕ) → (q ≡ state → ⊥) → place_of now q ≡ place_of places q
    now_other q other = get_or-set_other places state q (length names + 1) 0 other

    -- one more state has its place
    pub met_placed : ArePlaced (set places state (length names + 1)) (names ++ state ∷ [])
    met_placed = record { placed = placed; listed = λ q i e. listed q i e (cases_eq q state) }
      where
        old : (i q : ℕ) → place_of places q ≡ i + 1 → (q ≡ state) ⊎ (q ≡ state → ⊥) → place_of now q ≡ i + 1
        old i q e (inl is) = absurd (let none : place_of places q ≡ 0 = ap (place_of places) is ∙ new in omega (arith, none, e))
        old i q e (inr other) = now_other q other ∙ e

        last : (i q j : ℕ) → slice_get (state ∷ []) j ≡ Some q → i ≡ length names + j → place_of now q ≡ i + 1
        last i q zero e is = ap (place_of now) (sym (same_Some state q e)) ∙ (now_here ∙ (let same : length names + 1 ≡ i + 1 = omega (arith, is) in same))
        last i q (suc j) e is = absurd (let wrong : ◌≡◌ {A = Option ℕ} None (Some q) = e in cc)

        placed : (i q : ℕ) → slice_get (names ++ state ∷ []) i ≡ Some q → place_of now q ≡ i + 1
        placed i q e = by (append_at names (state ∷ []) i q e)
          where
            by : (slice_get names i ≡ Some q) ⊎ ((j : ℕ) × (slice_get (state ∷ []) j ≡ Some q) × (i ≡ length names + j)) → place_of now q ≡ i + 1
            by (inl there) = old i q (are.placed i q there) (cases_eq q state)
            by (inr f) = last i q f.0 f.1 f.2

        listed : (q i : ℕ) → place_of now q ≡ i + 1 → (q ≡ state) ⊎ (q ≡ state → ⊥) → slice_get (names ++ state ∷ []) i ≡ Some q
        listed q i e (inl is) =
            let here : length names + 1 ≡ i + 1 = sym now_here ∙ (ap (place_of now) (sym is) ∙ e) in
            let at : i ≡ length names + 0 = omega (arith, here) in
            ap (slice_get (names ++ state ∷ [])) at ∙ (at_append_right names (state ∷ []) 0 state refl ∙ ap Some (sym is))
        listed q i e (inr other) = at_append_left names (state ∷ []) i q (are.listed q i (sym (now_other q other) ∙ e))

    -- and its distance
    pub met_listed : (value : Cost) (costs : List Cost) → length costs ≡ length names → IsMet state value (length names) places (set places state (length names + 1)) costs (costs ++ value ∷ [])
    met_listed value costs many = record {
      others = λ q other. (same q (now_other q other) (place_low q), now_other q other);
      here = ap (λ (k : ℕ). get_or (infinite ∷ (costs ++ value ∷ [])) k infinite) now_here ∙ get_or_push (infinite ∷ costs) value infinite (length names + 1) (let e : suc (length costs) ≡ length names + 1 = omega (arith, many) in e);
      place = now_here;
    }
      where
        same : (q : ℕ) → place_of now q ≡ place_of places q → place_of places q ≤ length names → distance_by now (costs ++ value ∷ []) q ≡ distance_by places costs q
        same q is most = ap (λ (k : ℕ). get_or (infinite ∷ (costs ++ value ∷ [])) k infinite) is ∙ get_or_append_left (infinite ∷ costs) (value ∷ []) infinite (place_of places q) (let e : place_of places q < suc (length costs) = omega (arith, most, many) in e)

  -- a state that was met gets another distance
  module _ (state i : ℕ) (value : Cost) (costs : List Cost) (at : place_of places state ≡ i + 1) (low : i < length costs) where
    changed_here : distance_by places (set costs i value) state ≡ value
    changed_here = ap (λ (k : ℕ). get_or (infinite ∷ set costs i value) k infinite) (at ∙ (let e : i + 1 ≡ suc i = omega arith in e)) ∙ get_or-set_same costs i value infinite low

    changed_other : (q : ℕ) → (q ≡ state → ⊥) → distance_by places (set costs i value) q ≡ distance_by places costs q
    changed_other q other = by (place_of places q) refl
      where
        by : (k : ℕ) → place_of places q ≡ k → distance_by places (set costs i value) q ≡ distance_by places costs q
        by zero e = ap (λ (k : ℕ). get_or (infinite ∷ set costs i value) k infinite) e ∙ sym (ap (λ (k : ℕ). get_or (infinite ∷ costs) k infinite) e)
        by (suc j) e =
            let next : suc j ≡ j + 1 = omega arith in
            let apart : j ≡ i → ⊥ = λ is. other (place_one i q state (e ∙ (next ∙ ap (λ (k : ℕ). k + 1) is)) at) in
            ap (λ (k : ℕ). get_or (infinite ∷ set costs i value) k infinite) e ∙ (get_or-set_other costs i j value infinite apart ∙ sym (ap (λ (k : ℕ). get_or (infinite ∷ costs) k infinite) e))

    pub changed_offered : (next after : ℕ) → NoWorse value (distance_by places costs state) → after ≤ next → after ≤ i → Offered state value next after places places costs (set costs i value)
    changed_offered next after less before most = record {
      others = λ q other. (changed_other q other, refl);
      change = inr (record { here = changed_here; no_worse = less; before = before; behind = omega (arith, most, at); place = inr refl });
    }

  -- a state that was met keeps its distance
  pub kept_offered : (state i : ℕ) (value : Cost) (costs : List Cost) (next : ℕ) → place_of places state ≡ i + 1 → NoWorse (distance_by places costs state) value → Offered state value next next places places costs costs
  kept_offered state i value costs next at less = record {
    others = λ q other. (refl, refl);
    change = inl (record { no_worse = less; met = λ none. omega (arith, at, none); same = refl; here = (refl, refl) });
  }

-- a state that was met is one of those that may have a place
pub met_low : (places : List ℕ) (q i : ℕ) → place_of places q ≡ i + 1 → q < length places
met_low places q i at = by (cases_lt q (length places))
  where
    by : (q < length places) ⊎ (length places ≤ q) → q < length places
    by (inl low) = low
    by (inr past) = absurd (let none : place_of places q ≡ 0 = get_or_past places q 0 past in omega (arith, none, at))

-- The first states that were met have no places any more.
abbrev pub IsLeft : ℕ → List ℕ → List ℕ → Type 0
IsLeft done names places = (q : ℕ) → (place_of places q ≡ 0) ⊎ ((i : ℕ) × (done ≤ i) × (slice_get names i ≡ Some q))

pub left_begins : (places names : List ℕ) → ArePlaced places names → IsLeft 0 names places
left_begins places names are q = by (place_of places q) refl
  where
    by : (k : ℕ) → place_of places q ≡ k → (place_of places q ≡ 0) ⊎ ((i : ℕ) × (0 ≤ i) × (slice_get names i ≡ Some q))
    by zero e = inl e
    by (suc i) e = inr (i, omega arith, are.listed q i (e ∙ (let next : suc i ≡ i + 1 = omega arith in next)))

pub left_more : (done state : ℕ) (names places : List ℕ) → state < length places → slice_get names done ≡ Some state → IsLeft done names places → IsLeft (done + 1) names (set places state 0)
left_more done state names places low at left q = by (cases_eq q state)
  where
    old : (q ≡ state → ⊥) → (place_of places q ≡ 0) ⊎ ((i : ℕ) × (done ≤ i) × (slice_get names i ≡ Some q)) → (place_of (set places state 0) q ≡ 0) ⊎ ((i : ℕ) × (done + 1 ≤ i) × (slice_get names i ≡ Some q))
    old other (inl none) = inl (get_or-set_other places state q 0 0 other ∙ none)
    old other (inr f) = inr (f.0, later (cases_eq done f.0), f.2)
      where
        later : (done ≡ f.0) ⊎ (done ≡ f.0 → ⊥) → done + 1 ≤ f.0
        later (inl is) = absurd (other (same_Some q state (sym f.2 ∙ (ap (slice_get names) (sym is) ∙ at))))
        later (inr off) = strictly done f.0 f.1 off

    by : (q ≡ state) ⊎ (q ≡ state → ⊥) → (place_of (set places state 0) q ≡ 0) ⊎ ((i : ℕ) × (done + 1 ≤ i) × (slice_get names i ≡ Some q))
    by (inl is) = inl (ap (place_of (set places state 0)) is ∙ get_or-set_same places state 0 0 low)
    by (inr other) = old other (left q)

pub left_ends : (done n : ℕ) (names places : List ℕ) → length names ≤ done → length places ≡ n → IsLeft done names places → HasNoPlaces n places
left_ends done n names places all size left = (size, λ q. by q (left q))
  where
    by : (q : ℕ) → (place_of places q ≡ 0) ⊎ ((i : ℕ) × (done ≤ i) × (slice_get names i ≡ Some q)) → place_of places q ≡ 0
    by q (inl none) = none
    by q (inr f) = absurd (let low = slice_get_within names f.0 q f.2 in let high = f.1 in omega (arith, low, high, all))

-- no more states are met than there are
pub met_few : (n : ℕ) (places names : List ℕ) → length places ≡ n → ArePlaced places names → length names ≤ n
met_few n places names size are = Apart_below n names (apart_by (place_of places) 1 names (λ i q e. are.placed i q e ∙ (let same : i + 1 ≡ 1 + i = omega arith in same))) below
  where
    below : (k : ℕ) → Has names k → k < n
    below k h = let there = Has_at names k h in let low = met_low places k there.0 (are.placed there.0 k there.1) in omega (arith, low, size)

-- none were met yet
pub none_placed : (n : ℕ) (places : List ℕ) → HasNoPlaces n places → ArePlaced places []
none_placed n places blank = record {
  placed = λ i q e. absurd (let wrong : ◌≡◌ {A = Option ℕ} None (Some q) = e in cc);
  listed = λ q i e. absurd (let none = blank.1 q in omega (arith, none, e));
}

-- the distance of a state that was met, as it is listed
pub distance_listed : (places : List ℕ) (costs : List Cost) (state i : ℕ) → place_of places state ≡ i + 1 → distance_by places costs state ≡ get_or costs i infinite
distance_listed places costs state i at = ap (λ (k : ℕ). get_or (infinite ∷ costs) k infinite) (at ∙ (let e : i + 1 ≡ suc i = omega arith in e))

-- the place and the distance of a state that is listed
pub item_read : {D : Type 0} (value : D → Cost) (places : List ℕ) (items : List (Reached D)) → ArePlaced places (names_of items) → (i : ℕ) (r : Reached D) → slice_get items i ≡ Some r
    → (place_of places r.state ≡ i + 1) × (distance_by places (costs_of value items) r.state ≡ value r.distance)
item_read {D} value places items are i r e =
    let place = are.placed i r.state (at_mapped (λ (z : Reached D). z.state) items i r e) in
    let cost = get_or_from_slice_get (costs_of value items) i (value r.distance) infinite (at_mapped (λ (z : Reached D). value z.distance) items i r e) in
    (place, distance_listed places (costs_of value items) r.state i place ∙ cost)

-- a state keeps its number where its distance is written
pub names_set : {D : Type 0} (items : List (Reached D)) (i : ℕ) (r : Reached D) → slice_get (names_of items) i ≡ Some r.state → names_of (set items i r) ≡ names_of items
names_set {D} items i r e =
    let x = mapped_at (λ (z : Reached D). z.state) items i r.state e in
    map-set_same (λ (z : Reached D). z.state) items i r r (sym (ap (λ (z : Reached D). z.state) (get_or_from_slice_get items i x.0 r x.1) ∙ x.2))

pub costs_set : {D : Type 0} (value : D → Cost) (items : List (Reached D)) (i : ℕ) (r : Reached D) → costs_of value (set items i r) ≡ set (costs_of value items) i (value r.distance)
costs_set {D} value items i r = map-set (λ (z : Reached D). value z.distance) items i r

-- the distance of a state that was not met
pub distance_none : (places : List ℕ) (costs : List Cost) (state : ℕ) → place_of places state ≡ 0 → distance_by places costs state ≡ infinite
distance_none places costs state none = ap (λ (k : ℕ). get_or (infinite ∷ costs) k infinite) none

-- a new state gets the value that it is offered
pub met_offered : (places now : List ℕ) (costs more : List Cost) (state met : ℕ) (value : Cost) (next : ℕ) → place_of places state ≡ 0 → next ≤ met → IsMet state value met places now costs more → Offered state value next next places now costs more
met_offered places now costs more state met value next new most m = record {
  others = m.others;
  change = inr (record {
    here = m.here;
    no_worse = subst (NoWorse value) (sym (distance_none places costs state new)) (before_infinite value);
    before = omega arith;
    behind = (let place = m.place in omega (arith, most, place));
    place = inl new;
  });
}

-- an offer does not raise the first place from which to hand on
pub after_low : (at next after : ℕ) (value : Cost) (places now : List ℕ) (costs more : List Cost) (to : ℕ) → next ≤ at + 1 → Offered to value next after places now costs more → after ≤ at + 1
after_low at next after value places now costs more to low o = by o.change
  where
    by : Keeps to value next after places now costs more ⊎ Gives to value next after places now costs more → after ≤ at + 1
    by (inl k) = let e = k.same in omega (arith, e, low)
    by (inr w) = let e = w.before in omega (arith, e, low)

-- One at a single state
pub only_one : (kind : ArcType) (state : ℕ) → IsOnly kind (one_at kind state) state
only_one kind state = record {
  here = ap (λ (t : Bool). if t then one_of kind else infinite) (eq-eqb state state refl);
  others = λ q other. by q other (cases_Bool (eqb q state));
}
  where
    by : (q : ℕ) → (q ≡ state → ⊥) → (eqb q state ≡ true) ⊎ (eqb q state ≡ false) → one_at kind state q ≡ infinite
    by q other (inl e) = absurd (other (eqb-true q state e))
    by q other (inr e) = ap (λ (t : Bool). if t then one_of kind else infinite) e

-- ---- handing on

module _ (kind : ArcType) (Goes : Hop → Type 0) where
  -- the first state is met
  pub short_search_begins : (state n : ℕ) (value : Cost) (places now : List ℕ) (more : List Cost) → value ≡ one_of kind → HasNoPlaces n places → IsMet state value 0 places now [] more → ShortSearch kind Goes (one_at kind state) 0 now more
  short_search_begins state n value places now more is blank m = record {
    begins = λ q. begins q (cases_eq q state);
    reached = λ q. reached q (cases_eq q state);
    closed = λ h goes low. closed h low (cases_eq h.from state);
    ranges = λ q. ranges q (cases_eq q state);
    kinds = λ q. kinds q (cases_eq q state);
  }
    where
      only : IsOnly kind (one_at kind state) state
      only = only_one kind state

      here : distance_by now more state ≡ one_of kind
      here = m.here ∙ is

      none : (q : ℕ) → (q ≡ state → ⊥) → distance_by now more q ≡ infinite
      none q other = (m.others q other).0 ∙ distance_none places [] q (blank.1 q)

      begins : (q : ℕ) → (q ≡ state) ⊎ (q ≡ state → ⊥) → NoWorse (distance_by now more q) (one_at kind state q)
      begins q (inl e) = subst (λ (z : ℕ). NoWorse (distance_by now more z) (one_at kind state z)) (sym e) (subst (NoWorse (distance_by now more state)) (here ∙ sym only.here) (plus_same (distance_by now more state)))
      begins q (inr other) = subst (NoWorse (distance_by now more q)) (sym (only.others q other)) (before_infinite (distance_by now more q))

      reached : (q : ℕ) → (q ≡ state) ⊎ (q ≡ state → ⊥) → (place_of now q ≡ 0) ⊎ Arrives kind Goes (one_at kind state) q (distance_by now more q)
      reached q (inl e) = inr (record {
        back = [];
        first = state;
        leads = e;
        begins = λ zero_there. one_not_zero kind (sym only.here ∙ zero_there);
        weight = ap (distance_by now more) e ∙ (here ∙ (sym only.here ∙ sym (one_times kind (one_at kind state state))));
      })
      reached q (inr other) = inl ((m.others q other).1 ∙ blank.1 q)

      closed : (h : Hop) → place_of now h.from ≤ 0 → (h.from ≡ state) ⊎ (h.from ≡ state → ⊥) → NoWorse (distance_by now more h.to) (times kind h.weight (distance_by now more h.from))
      closed h low (inl e) = absurd (let one : place_of now h.from ≡ 0 + 1 = ap (place_of now) e ∙ m.place in omega (arith, low, one))
      closed h low (inr other) = subst (NoWorse (distance_by now more h.to)) (sym (ap (times kind h.weight) (none h.from other) ∙ times_zero kind h.weight)) (before_infinite (distance_by now more h.to))

      ranges : (q : ℕ) → (q ≡ state) ⊎ (q ≡ state → ⊥) → InRange (distance_by now more q)
      ranges q (inl e) = subst InRange (sym (ap (distance_by now more) e ∙ here)) (Within-one 1000000000000000000 kind)
      ranges q (inr other) = subst InRange (sym (none q other)) tt

      kinds : (q : ℕ) → (q ≡ state) ⊎ (q ≡ state → ⊥) → IsCost kind (distance_by now more q)
      kinds q (inl e) = subst (IsCost kind) (sym (ap (distance_by now more) e ∙ here)) (IsCost-one kind)
      kinds q (inr other) = subst (IsCost kind) (sym (none q other)) tt

  module _ (source : ℕ → Cost) where
    -- The state in a place hands on, and has done so along some hops. The first places need not hand on again.
    pub record Handing (at state : ℕ) (so_far : Cost) (next : ℕ) (looked : List Hop) (places : List ℕ) (costs : List Cost) : Type 0 where
      pub begins : (q : ℕ) → NoWorse (distance_by places costs q) (source q)
      pub reached : (q : ℕ) → (place_of places q ≡ 0) ⊎ Arrives kind Goes source q (distance_by places costs q)
      pub ranges : (q : ℕ) → InRange (distance_by places costs q)
      pub kinds : (q : ℕ) → IsCost kind (distance_by places costs q)
      pub closed : (h : Hop) → Goes h → place_of places h.from ≤ next → (h.from ≡ state → ⊥) → NoWorse (distance_by places costs h.to) (times kind h.weight (distance_by places costs h.from))
      pub handed : (h : Hop) → Has looked h → NoWorse (distance_by places costs h.to) (times kind h.weight so_far)
      pub own : at < next → distance_by places costs state ≡ so_far
      pub arrives : Arrives kind Goes source state so_far
      pub least : next ≤ at + 1
      pub place : place_of places state ≡ at + 1

    pub handing_begins : (at state : ℕ) (places names : List ℕ) (costs : List Cost) → ArePlaced places names → place_of places state ≡ at + 1 → ShortSearch kind Goes source at places costs
        → Handing at state (distance_by places costs state) (at + 1) [] places costs
    handing_begins at state places names costs are here s = record {
      begins = s.begins;
      reached = s.reached;
      ranges = s.ranges;
      kinds = s.kinds;
      closed = λ h goes low other. s.closed h goes (below h.from low other (cases_lt at (place_of places h.from)));
      handed = λ h none. absurd none;
      own = λ less. refl;
      arrives = arrives (s.reached state);
      least = omega arith;
      place = here;
    }
      where
        below : (q : ℕ) → place_of places q ≤ at + 1 → (q ≡ state → ⊥) → (at < place_of places q) ⊎ (place_of places q ≤ at) → place_of places q ≤ at
        below q low other (inl high) = absurd (other (place_one places names are at q state (omega (arith, low, high)) here))
        below q low other (inr most) = most

        arrives : (place_of places state ≡ 0) ⊎ Arrives kind Goes source state (distance_by places costs state) → Arrives kind Goes source state (distance_by places costs state)
        arrives (inl none) = absurd (omega (arith, none, here))
        arrives (inr a) = a

    module _ (at state : ℕ) (so_far : Cost) (next : ℕ) (looked : List Hop) (places : List ℕ) (costs : List Cost) (t : Handing at state so_far next looked places costs)
        (h : Hop) (goes : Goes h) (from : h.from ≡ state) (v : Cost) (is : v ≡ times kind h.weight so_far) (range : InRange v) (cost : IsCost kind v)
        (after : ℕ) (now : List ℕ) (more : List Cost) (o : Offered h.to v next after places now costs more) where
      better : (q : ℕ) → (q ≡ h.to) ⊎ (q ≡ h.to → ⊥) → NoWorse (distance_by now more q) (distance_by places costs q)
      better q (inl e) = subst (λ (z : ℕ). NoWorse (distance_by now more z) (distance_by places costs z)) (sym e) (by o.change)
        where
          by : Keeps h.to v next after places now costs more ⊎ Gives h.to v next after places now costs more → NoWorse (distance_by now more h.to) (distance_by places costs h.to)
          by (inl k) = subst (λ (z : Cost). NoWorse z (distance_by places costs h.to)) (sym k.here.0) (plus_same (distance_by places costs h.to))
          by (inr w) = subst (λ (z : Cost). NoWorse z (distance_by places costs h.to)) (sym w.here) w.no_worse
      better q (inr other) = subst (λ (z : Cost). NoWorse z (distance_by places costs q)) (sym (o.others q other).0) (plus_same (distance_by places costs q))

      no_worse : (q : ℕ) → NoWorse (distance_by now more q) (distance_by places costs q)
      no_worse q = better q (cases_eq q h.to)

      fewer : Keeps h.to v next after places now costs more ⊎ Gives h.to v next after places now costs more → after ≤ next
      fewer (inl k) = let e = k.same in omega (arith, e)
      fewer (inr w) = w.before

      -- what holds of the value and of all distances so far holds of those that follow
      each : (P : Cost → Type 0) → P v → ((q : ℕ) → P (distance_by places costs q)) → (q : ℕ) → P (distance_by now more q)
      each P here old q = by (cases_eq q h.to)
        where
          at_end : Keeps h.to v next after places now costs more ⊎ Gives h.to v next after places now costs more → P (distance_by now more h.to)
          at_end (inl k) = subst P (sym k.here.0) (old h.to)
          at_end (inr w) = subst P (sym w.here) here

          by : (q ≡ h.to) ⊎ (q ≡ h.to → ⊥) → P (distance_by now more q)
          by (inl e) = subst (λ (z : ℕ). P (distance_by now more z)) (sym e) (at_end o.change)
          by (inr other) = subst P (sym (o.others q other).0) (old q)

      v_arrives : Arrives kind Goes source h.to v
      v_arrives = arrives_on kind Goes source h so_far v goes is (subst (λ (z : ℕ). Arrives kind Goes source z so_far) (sym from) t.arrives)

      moved : (q : ℕ) → distance_by now more q ≡ distance_by places costs q → place_of now q ≡ place_of places q → (place_of places q ≡ 0) ⊎ Arrives kind Goes source q (distance_by places costs q)
          → (place_of now q ≡ 0) ⊎ Arrives kind Goes source q (distance_by now more q)
      moved q d p (inl none) = inl (p ∙ none)
      moved q d p (inr a) = inr (subst (Arrives kind Goes source q) (sym d) a)

      reached : (q : ℕ) → (q ≡ h.to) ⊎ (q ≡ h.to → ⊥) → (place_of now q ≡ 0) ⊎ Arrives kind Goes source q (distance_by now more q)
      reached q (inl e) = subst (λ (z : ℕ). (place_of now z ≡ 0) ⊎ Arrives kind Goes source z (distance_by now more z)) (sym e) (by o.change)
        where
          by : Keeps h.to v next after places now costs more ⊎ Gives h.to v next after places now costs more → (place_of now h.to ≡ 0) ⊎ Arrives kind Goes source h.to (distance_by now more h.to)
          by (inl k) = moved h.to k.here.0 k.here.1 (t.reached h.to)
          by (inr w) = inr (subst (Arrives kind Goes source h.to) (sym w.here) v_arrives)
      reached q (inr other) = moved q (o.others q other).0 (o.others q other).1 (t.reached q)

      -- the distance of a state that need not hand on again stays
      stays : (q : ℕ) → place_of now q ≤ after → (q ≡ h.to) ⊎ (q ≡ h.to → ⊥) → (distance_by now more q ≡ distance_by places costs q) × (place_of now q ≡ place_of places q)
      stays q low (inl e) = subst (λ (z : ℕ). (distance_by now more z ≡ distance_by places costs z) × (place_of now z ≡ place_of places z)) (sym e) (by o.change (subst (λ (z : ℕ). place_of now z ≤ after) e low))
        where
          by : Keeps h.to v next after places now costs more ⊎ Gives h.to v next after places now costs more → place_of now h.to ≤ after → (distance_by now more h.to ≡ distance_by places costs h.to) × (place_of now h.to ≡ place_of places h.to)
          by (inl k) most = k.here
          by (inr w) most = absurd (let high = w.behind in omega (arith, most, high))
      stays q low (inr other) = o.others q other

      closed : (k : Hop) → Goes k → place_of now k.from ≤ after → (k.from ≡ state → ⊥) → NoWorse (distance_by now more k.to) (times kind k.weight (distance_by now more k.from))
      closed k goes_k low away =
          let s = stays k.from low (cases_eq k.from h.to) in
          let few = fewer o.change in
          let place = s.1 in
          subst (λ (z : Cost). NoWorse (distance_by now more k.to) (times kind k.weight z)) (sym s.0)
          (plus_trans (distance_by now more k.to) (distance_by places costs k.to) (times kind k.weight (distance_by places costs k.from)) (no_worse k.to) (t.closed k goes_k (omega (arith, low, few, place)) away))

      here_no_worse : Keeps h.to v next after places now costs more ⊎ Gives h.to v next after places now costs more → NoWorse (distance_by now more h.to) v
      here_no_worse (inl k) = subst (λ (z : Cost). NoWorse z v) (sym k.here.0) k.no_worse
      here_no_worse (inr w) = subst (λ (z : Cost). NoWorse z v) (sym w.here) (plus_same v)

      handed : (k : Hop) → Has looked k ⊎ Has (h ∷ []) k → NoWorse (distance_by now more k.to) (times kind k.weight so_far)
      handed k (inl old) = plus_trans (distance_by now more k.to) (distance_by places costs k.to) (times kind k.weight so_far) (no_worse k.to) (t.handed k old)
      handed k (inr (inl e)) = subst (λ (z : Hop). NoWorse (distance_by now more z.to) (times kind z.weight so_far)) e (subst (NoWorse (distance_by now more h.to)) is (here_no_worse o.change))
      handed k (inr (inr none)) = absurd none

      place_here : (state ≡ h.to) ⊎ (state ≡ h.to → ⊥) → place_of now state ≡ at + 1
      place_here (inl e) = ap (place_of now) e ∙ (by o.change ∙ (ap (place_of places) (sym e) ∙ t.place))
        where
          old : (place_of places h.to ≡ 0) ⊎ (place_of now h.to ≡ place_of places h.to) → place_of now h.to ≡ place_of places h.to
          old (inl none) = absurd (let one : place_of places h.to ≡ at + 1 = ap (place_of places) (sym e) ∙ t.place in omega (arith, none, one))
          old (inr same) = same

          by : Keeps h.to v next after places now costs more ⊎ Gives h.to v next after places now costs more → place_of now h.to ≡ place_of places h.to
          by (inl k) = k.here.1
          by (inr w) = old w.place
      place_here (inr other) = (o.others state other).1 ∙ t.place

      pub handing_more : Handing at state so_far after (looked ++ h ∷ []) now more
      handing_more =
          let few = fewer o.change in
          let least = t.least in
          let place = place_here (cases_eq state h.to) in
          record {
            begins = λ q. plus_trans (distance_by now more q) (distance_by places costs q) (source q) (no_worse q) (t.begins q);
            reached = λ q. reached q (cases_eq q h.to);
            ranges = each InRange range t.ranges;
            kinds = each (IsCost kind) cost t.kinds;
            closed = closed;
            handed = λ k has. handed k (Has-append_cases looked (h ∷ []) k has);
            own = λ less. (stays state (omega (arith, less, place)) (cases_eq state h.to)).0 ∙ t.own (omega (arith, less, few));
            arrives = t.arrives;
            least = omega (arith, few, least);
            place = place;
          }

    -- all hops of the state have been looked at
    pub handing_ends : (at state : ℕ) (so_far : Cost) (next : ℕ) (looked : List Hop) (places : List ℕ) (costs : List Cost) → Handing at state so_far next looked places costs
        → ((h : Hop) → Goes h → h.from ≡ state → Has looked h) → ShortSearch kind Goes source next places costs
    handing_ends at state so_far next looked places costs t all = record {
      begins = t.begins;
      reached = t.reached;
      closed = λ h goes low. closed h goes low (cases_eq h.from state);
      ranges = t.ranges;
      kinds = t.kinds;
    }
      where
        closed : (h : Hop) → Goes h → place_of places h.from ≤ next → (h.from ≡ state) ⊎ (h.from ≡ state → ⊥) → NoWorse (distance_by places costs h.to) (times kind h.weight (distance_by places costs h.from))
        closed h goes low (inl e) =
            let place : place_of places h.from ≡ at + 1 = ap (place_of places) e ∙ t.place in
            subst (λ (z : Cost). NoWorse (distance_by places costs h.to) (times kind h.weight z)) (sym (ap (distance_by places costs) e ∙ t.own (omega (arith, low, place)))) (t.handed h (all h goes e))
        closed h goes low (inr other) = t.closed h goes low other

-- ---- the links of a state

module _ {V : Type 0} (value : V → Cost) (links : List (List (Link V))) (state : ℕ) (items : List (Link V)) (are : items ≡ get_or links state []) where
  pub link_leads : (i : ℕ) (l : Link V) → i < length items → l ≡ get_or items i l → IsHop value [] links (link_hop value state l)
  link_leads i l low is = record { link = l; there = subst (λ (ls : List (Link V)). Has ls l) are (read_Has items i l low is); same = refl; leads = refl }

  pub links_more : (i : ℕ) (l : Link V) → i < length items → l ≡ get_or items i l → map (link_hop value state) (take (i + 1) items) ≡ map (link_hop value state) (take i items) ++ link_hop value state l ∷ []
  links_more i l low is = ap (map (link_hop value state)) (take_more items i l low ∙ ap (λ (y : Link V). take i items ++ y ∷ []) (sym is)) ∙ map-append (link_hop value state) (take i items) (l ∷ [])

  pub links_done : (i : ℕ) → length items ≤ i → (h : Hop) → IsHop value [] links h → h.from ≡ state → Has (map (link_hop value state) (take i items)) h
  links_done i all h goes e =
      let there : Has items goes.link = subst (λ (ls : List (Link V)). Has ls goes.link) (ap (λ (q : ℕ). get_or links q []) e ∙ sym are) goes.there in
      let done = subst (Has (map (link_hop value state) items)) (ap (λ (q : ℕ). link_hop value q goes.link) (sym e) ∙ sym goes.same) (Has-map (link_hop value state) items goes.link there) in
      subst (λ (ls : List (Link V)). Has (map (link_hop value state) ls) h) (sym (take_all i items all)) done
