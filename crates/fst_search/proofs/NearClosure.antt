-- What a short search finds is the closure of its state.
use Rattle.std.proofs.Common.{◌≡◌, ◌⊎◌, inl, inr, ℕ, ◌+◌, ◌*◌, ◌<◌, zero, suc, List, [], ◌∷◌, Some, length, map, get_or, slice_get, sym, refl, ap, ◌∙◌, subst, arith}
use Rattle.std.proofs.lemmas.List.{length-map}
use Rattle.std.proofs.lemmas.Option.{get_or_from_slice_get}
use Rattle.fst_semiring.specs.Cost.{Cost, infinite}
use Rattle.fst_semiring.specs.declared.arc_type.ArcType.{ArcType}
use Rattle.fst_semiring.specs.Semiring.{times, IsCost, Within}
use Rattle.fst_semiring.proofs.Laws.{one_not_zero, one_times, times_assoc, times_keeps}
use Rattle.fst_semiring.proofs.Order.{plus_trans}
use Rattle.fst_semiring.proofs.Ranges.{Within-more}
use Rattle.fst_machine.specs.BreadthFirst.{Apart, Has}
use Rattle.fst_machine.specs.Distance.{EpsilonArc, IsDistance, IsLeast, Reaches}
use Rattle.fst_machine.specs.Graph.{graph_of}
use Rattle.fst_machine.specs.Letters.{product}
use Rattle.fst_machine.specs.Machine.{IsMachine, Machine, valued}
use Rattle.fst_machine.specs.Paths.{letters}
use Rattle.fst_machine.proofs.Arcs.{at_mapped, mapped_at}
use Rattle.fst_machine.proofs.Elements.{at_Has, Has_at}
use Rattle.fst_trim.specs.Counted.{has_both_epsilons}
use Rattle.fst_trim.specs.Links.{epsilon_links}
use Rattle.fst_search.specs.Beginning.{IsOnly}
use Rattle.fst_search.specs.Closure.{IsClosure, Reached, states_of, valued_reached}
use Rattle.fst_search.specs.Hops.{Hop, Arrives, IsBack, IsHop, IsNet, NoWorse, hops_product, value_by}
use Rattle.fst_search.specs.Near.{ArePlaced, ShortSearch, costs_of, distance_by, names_of, one_at, place_of}
use Rattle.fst_search.proofs.HopPaths.{forward_back}
use Rattle.fst_search.proofs.MachineHops.{along_net}
use Rattle.fst_search.proofs.Measured.{class_distance}
use Rattle.fst_search.proofs.Order.{after_infinite}
use Rattle.fst_search.proofs.Rounds.{arrives_finite}
use Rattle.fst_search.proofs.Silent.{goes_silent, silent_goes}
use Rattle.fst_search.proofs.ShortSearch.{apart_by, distance_listed, distance_none, only_one, place_low}

names_valued : {D : Type 0} (value : D → Cost) (items : List (Reached D)) → states_of (map (valued_reached value) items) ≡ names_of items
names_valued value [] = refl
names_valued value (r ∷ items) = ap (λ (zs : List ℕ). r.state ∷ zs) (names_valued value items)

-- where every state has handed on, no path gives a better value
closed_no_worse : (kind : ArcType) (Goes : Hop → Type 0) (source D : ℕ → Cost) → ((q : ℕ) → NoWorse (D q) (source q)) → ((h : Hop) → Goes h → NoWorse (D h.to) (times kind h.weight (D h.from)))
    → (back : List Hop) (q p : ℕ) → IsBack Goes q back p → NoWorse (D q) (value_by kind source back p)
closed_no_worse kind Goes source D begins closed [] q p leads = subst (λ z. NoWorse (D q) z) (ap source leads ∙ sym (one_times kind (source p))) (begins q)
closed_no_worse kind Goes source D begins closed (h ∷ back) q p leads =
    let rest = closed_no_worse kind Goes source D begins closed back h.from p leads.2 in
    subst (λ (z : ℕ). NoWorse (D z) (value_by kind source (h ∷ back) p)) leads.1
    (subst (λ z. NoWorse (D h.to) z) (sym (times_assoc kind h.weight (hops_product kind back) (source p)))
    (plus_trans (D h.to) (times kind h.weight (D h.from)) _ (closed h leads.0) (times_keeps kind h.weight (D h.from) _ rest)))

module _ {V : Type 0} (kind : ArcType) (value : V → Cost) (m : Machine V) (good : IsMachine value m) (q : ℕ) (low : q < length m.states) (items : List (Reached V)) (places : List ℕ)
    (are : ArePlaced places (names_of items)) (s : ShortSearch kind (IsHop value [] (epsilon_links m.states)) (one_at kind q) (length items) places (costs_of value items)) where
  abbrev Goes : Hop → Type 0
  Goes h = IsHop value [] (epsilon_links m.states) h

  net : IsNet (IsHop value [] (epsilon_links m.states)) (length m.states)
  net = along_net value m [] good has_both_epsilons

  only : IsOnly kind (one_at kind q) q
  only = only_one kind q

  no_worse : (p : ℕ) (v : Cost) → Arrives kind Goes (one_at kind q) p v → NoWorse (distance_by places (costs_of value items) p) v
  no_worse p v a = subst (NoWorse (distance_by places (costs_of value items) p)) (sym a.weight) (closed_no_worse kind Goes (one_at kind q) (distance_by places (costs_of value items)) s.begins closed a.back p a.first a.leads)
    where
      closed : (h : Hop) → Goes h → NoWorse (distance_by places (costs_of value items) h.to) (times kind h.weight (distance_by places (costs_of value items) h.from))
      closed h goes = s.closed h goes (let most = place_low places (names_of items) are h.from in let many : length (names_of items) ≡ length items = length-map items _ in omega (arith, most, many))

  least : (p : ℕ) → IsLeast (Arrives kind Goes (one_at kind q) p) (distance_by places (costs_of value items) p)
  least p = by (s.reached p)
    where
      by : (place_of places p ≡ 0) ⊎ Arrives kind Goes (one_at kind q) p (distance_by places (costs_of value items) p) → IsLeast (Arrives kind Goes (one_at kind q) p) (distance_by places (costs_of value items) p)
      by (inl none) =
          let zero_there = distance_none places (costs_of value items) p none in
          inl ((λ v a. arrives_finite kind Goes (one_at kind q) (length m.states) net p v a (after_infinite _ v (no_worse p v a) zero_there)), zero_there)
      by (inr a) = inr (a, no_worse p)

  distance : (p : ℕ) → IsDistance kind (graph_of (valued value m)) EpsilonArc q p (distance_by places (costs_of value items) p)
  distance p = class_distance kind (graph_of (valued value m)) Goes EpsilonArc (goes_silent kind value m good) (one_at kind q) q only (silent_goes kind value m good) p _ (least p)

  -- a state that is listed
  record Listed (r : Reached Cost) : Type 0 where
    pub here : distance_by places (costs_of value items) r.state ≡ r.distance
    pub met : place_of places r.state ≡ 0 → ⊥

  listed : (r : Reached Cost) → Has (map (valued_reached value) items) r → Listed r
  listed r has = by (Has_at (map (valued_reached value) items) r has)
    where
      by : (k : ℕ) × (slice_get (map (valued_reached value) items) k ≡ Some r) × (k < length (map (valued_reached value) items)) → Listed r
      by at =
          let from = mapped_at (valued_reached value) items at.0 r at.1 in
          let x = from.0 in
          let place : place_of places x.state ≡ at.0 + 1 = are.placed at.0 x.state (at_mapped (λ (z : Reached V). z.state) items at.0 x from.1) in
          let cost : get_or (costs_of value items) at.0 infinite ≡ value x.distance = get_or_from_slice_get (costs_of value items) at.0 (value x.distance) infinite (at_mapped (λ (z : Reached V). value z.distance) items at.0 x from.1) in
          let d : distance_by places (costs_of value items) x.state ≡ value x.distance = distance_listed places (costs_of value items) x.state at.0 place ∙ cost in
          subst Listed from.2 (record { here = d; met = λ none. omega (arith, none, place) })

  finite : (p : ℕ) → (place_of places p ≡ 0 → ⊥) → distance_by places (costs_of value items) p ≡ infinite → ⊥
  finite p met zero_there = by (s.reached p)
    where
      by : (place_of places p ≡ 0) ⊎ Arrives kind Goes (one_at kind q) p (distance_by places (costs_of value items) p) → ⊥
      by (inl none) = met none
      by (inr a) = arrives_finite kind Goes (one_at kind q) (length m.states) net p _ a zero_there

  met_there : (p : ℕ) (c : Cost) → Reaches kind (graph_of (valued value m)) EpsilonArc q p c → Has (names_of items) p
  met_there p c r = by (place_of places p) refl
    where
      b : (back : List Hop) × IsBack Goes p back q × (hops_product kind back ≡ product kind (letters r.path))
      b = forward_back kind (graph_of (valued value m)) Goes EpsilonArc (silent_goes kind value m good) r.path q p r.leads r.class

      a : Arrives kind Goes (one_at kind q) p (value_by kind (one_at kind q) b.0 q)
      a = record { back = b.0; first = q; leads = b.1; begins = λ z. one_not_zero kind (sym only.here ∙ z); weight = refl }

      by : (k : ℕ) → place_of places p ≡ k → Has (names_of items) p
      by zero e = absurd (arrives_finite kind Goes (one_at kind q) (length m.states) net p _ a (after_infinite _ _ (no_worse p _ a) (distance_none places (costs_of value items) p e)))
      by (suc i) e = at_Has (names_of items) i p (are.listed p i (e ∙ (let same : suc i ≡ i + 1 = omega arith in same)))

  pub near_closure : IsClosure kind (graph_of (valued value m)) q (length m.states * 1000000000000000000) (map (valued_reached value) items)
  near_closure = record {
    apart = subst Apart (sym (names_valued value items)) (apart_by (place_of places) 1 (names_of items) (λ i p e. are.placed i p e ∙ (let same : i + 1 ≡ 1 + i = omega arith in same)));
    distances = λ r has. subst (IsDistance kind (graph_of (valued value m)) EpsilonArc q r.state) (listed r has).here (distance r.state);
    finite = λ r has zero_here. finite r.state (listed r has).met ((listed r has).here ∙ zero_here);
    numbers = λ r has. subst (Within (length m.states * 1000000000000000000)) (listed r has).here (Within-more 1000000000000000000 (length m.states * 1000000000000000000) _ (omega (arith, low)) (s.ranges r.state));
    kinds = λ r has. subst (IsCost kind) (listed r has).here (s.kinds r.state);
    all = λ p c reaches. subst (λ (names : List ℕ). Has names p) (sym (names_valued value items)) (met_there p c reaches);
  }
