-- How large the weights of a machine and of its compositions are.
use Rattle.std.proofs.Common.{◌≡◌, ◌⊎◌, inl, inr, ℕ, ◌+◌, ◌<◌, ◌≤◌, zero, suc, Bool, true, false, cond, nat_eq, List, [], ◌∷◌, ◌++◌, Some, length, map, take, get_or, slice_get, sym, ap, ◌∙◌, subst, arith}
use Rattle.std.specs.List.{All, flat_map}
use Rattle.std.specs.Option.{option_map}
use Rattle.std.proofs.lemmas.Bool.{cases_lt}
use Rattle.std.proofs.lemmas.List.{get_or_past, take_more}
use Rattle.std.proofs.lemmas.List.Elements.{All-append, All-cons, All-map, All-nil, All-push, All-weaker}
use Rattle.fst_semiring.specs.Cost.{Cost}
use Rattle.fst_semiring.specs.Semiring.{InRange, Within}
use Rattle.fst_semiring.specs.declared.arc_type.ArcType.{ArcType}
use Rattle.fst_semiring.proofs.Ranges.{Within-more, Within-times}
use Rattle.fst_machine.specs.Graph.{Graph, graph_of, no_state}
use Rattle.fst_machine.specs.Machine.{Arc, IsMachine, Machine, State, valued, valued_arc, valued_state}
use Rattle.fst_machine.proofs.Walking.{graph_arcs}
use Rattle.fst_compose.specs.Composition.{both_arc, by_label, composed, first_alone, first_arcs, match_arcs, second_alone, second_arcs}
use Rattle.fst_compose.specs.Good.{composed_good}
use Rattle.fst_compose.specs.Names.{Name}
use Rattle.fst_delayed.specs.Graphs.{HasSmallArcs, IsRanged}

module _ {V : Type 0} (value : V → Cost) (m : Machine V) where
  -- the arcs of a state, as the graph has them
  pub ranged_at : (p : ℕ) (arcs : List (Arc V ℕ)) → option_map (λ s. s.arcs) (slice_get m.states p) ≡ Some arcs → All (λ a. InRange (value a.weight)) arcs → All (λ a. InRange a.weight) ((graph_of (valued value m)).arcs p)
  ranged_at p arcs is all = subst (All (λ (a : Arc Cost ℕ). InRange a.weight)) (sym (graph_arcs value m p arcs is))
      (All-map (λ (a : Arc Cost ℕ). InRange a.weight) (valued_arc value) arcs all)

  -- no other state has arcs
  pub ranged_all : ((p : ℕ) → p < length m.states → All (λ a. InRange a.weight) ((graph_of (valued value m)).arcs p)) → IsRanged (graph_of (valued value m))
  ranged_all each p = by (cases_lt p (length m.states))
    where
      by : (p < length m.states) ⊎ (length m.states ≤ p) → All (λ a. InRange a.weight) ((graph_of (valued value m)).arcs p)
      by (inl low) = each p low
      by (inr high) = subst (λ (s : State Cost). All (λ (a : Arc Cost ℕ). InRange a.weight) s.arcs) (sym (past m.states p high)) (All-nil (λ (a : Arc Cost ℕ). InRange a.weight))
        where
          past : (states : List (State V)) (q : ℕ) → length states ≤ q → get_or (map (valued_state value) states) q no_state ≡ no_state
          past [] q h = get_or_past [] q no_state (omega (arith, h))
          past (s ∷ states) zero h = absurd (omega (arith, h))
          past (s ∷ states) (suc q) h = past states q (omega (arith, h))

All-flat_map : {X Y : Type 0} (P : Y → Type 0) (f : X → List Y) (xs : List X) → All (λ x. All P (f x)) xs → All P (flat_map f xs)
All-flat_map P f [] all = All-nil P
All-flat_map P f (x ∷ xs) all = All-append P (f x) (flat_map f xs) (all 0 x (omega arith)) (All-flat_map P f xs (λ k d low. all (suc k) d (omega (arith, low))))

All-one : {X : Type 0} (P : X → Type 0) (x : X) → P x → All P (x ∷ [])
All-one P x h = All-cons P x [] h (All-nil P)

All-by_label : {X : Type 0} (P : X → Type 0) (k : ℕ) (xs ys : List X) → All P xs → All P ys → All P (by_label k xs ys)
All-by_label P zero xs ys h k = h
All-by_label P (suc n) xs ys h k = k

All-cond : {X : Type 0} (P : X → Type 0) (b : Bool) (xs : List X) → All P xs → All P (cond b xs [])
All-cond P true xs h = h
All-cond P false xs h = All-nil P

module _ (kind : ArcType) (a b : Graph ℕ) (left : IsRanged a) (right : IsRanged b) where
  abbrev Small : Arc Cost (Name ℕ ℕ) → Type 0
  Small arc = Within 2000000000000000000 arc.weight

  wider : (v : Cost) → InRange v → Within 2000000000000000000 v
  wider v h = Within-more 1000000000000000000 2000000000000000000 v (omega arith) h

  -- arcs of the composition are products of two at most
  pub composed_small : (n : Name ℕ ℕ) → All Small ((composed kind a b).arcs n)
  composed_small n =
      All-append Small (flat_map (first_arcs kind n (b.arcs n.second)) (a.arcs n.first)) (flat_map (second_arcs n) (b.arcs n.second))
      (All-flat_map Small (first_arcs kind n (b.arcs n.second)) (a.arcs n.first) (All-weaker (λ (x : Arc Cost ℕ). InRange x.weight) (λ x. All Small (first_arcs kind n (b.arcs n.second) x)) first_small (a.arcs n.first) (left n.first)))
      (All-flat_map Small (second_arcs n) (b.arcs n.second) (All-weaker (λ (y : Arc Cost ℕ). InRange y.weight) (λ y. All Small (second_arcs n y)) second_small (b.arcs n.second) (right n.second)))
    where
      first_small : (x : Arc Cost ℕ) → InRange x.weight → All Small (first_arcs kind n (b.arcs n.second) x)
      first_small x h =
          All-by_label Small x.olabel (by_label n.filter (first_alone n x ∷ []) []) (flat_map (match_arcs kind x) (b.arcs n.second))
          (All-by_label Small n.filter (first_alone n x ∷ []) [] (All-one Small (first_alone n x) (wider x.weight h)) (All-nil Small))
          (All-flat_map Small (match_arcs kind x) (b.arcs n.second)
          (All-weaker (λ (y : Arc Cost ℕ). InRange y.weight) (λ y. All Small (match_arcs kind x y))
          (λ y k. All-cond Small (nat_eq x.olabel y.ilabel) (both_arc kind x y ∷ []) (All-one Small (both_arc kind x y) (Within-times kind 1000000000000000000 1000000000000000000 x.weight y.weight h k)))
          (b.arcs n.second) (right n.second)))

      second_small : (y : Arc Cost ℕ) → InRange y.weight → All Small (second_arcs n y)
      second_small y k = All-by_label Small y.ilabel (second_alone n y ∷ []) [] (All-one Small (second_alone n y) (wider y.weight k)) (All-nil Small)

-- so the arcs of names of states of machines are small
pub has_small : {V : Type 0} (kind : ArcType) (value : V → Cost) (d : Machine V × Machine V) → IsMachine value d.0 → IsMachine value d.1 → IsRanged (graph_of (valued value d.0)) → IsRanged (graph_of (valued value d.1)) → HasSmallArcs kind value d
has_small kind value d left right ranged ranged' n key k arc low =
    let good = composed_good kind value d.0 d.1 left right n (key.0, key.1) k arc low in
    record {
      good = record { ilabel = good.ilabel; olabel = good.olabel; weight = good.weight };
      small = composed_small kind (graph_of (valued value d.0)) (graph_of (valued value d.1)) ranged ranged' n k arc low;
    }
