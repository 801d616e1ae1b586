-- The distances of the useful states of a machine are those of the states of the connected one.
use Rattle.std.proofs.Common.{◌≡◌, ◌≢◌, ◌⊎◌, inl, inr, ℕ, ◌*◌, ◌<◌, ◌≤◌, List, [], ◌∷◌, ◌++◌, Option, None, Some, length, get_or, slice_get, sym, ap, ◌∙◌, subst, arith}
use Rattle.std.specs.Prelude.{IfSome}
use Rattle.std.proofs.lemmas.List.{length-append}
use Rattle.fst_machine.proofs.Arcs.{at_append_left}
use Rattle.fst_distance.proofs.Lists.{push_at, push_last}
use Rattle.fst_semiring.specs.Cost.{Cost, infinite}
use Rattle.fst_semiring.specs.declared.arc_type.ArcType.{ArcType}
use Rattle.fst_semiring.specs.Semiring.{IsCost, Within}
use Rattle.fst_semiring.proofs.Ranges.{Within-more}
use Rattle.fst_machine.specs.Machine.{Machine, IsArc, IsMachine, most_states}
use Rattle.fst_machine.specs.Graph.{graph_of, no_state}
use Rattle.fst_machine.specs.Connected.{IsConnected}
use Rattle.fst_machine.specs.Distance.{IsFinalDistance}
use Rattle.fst_machine.proofs.Cycles.{state_below}
use Rattle.fst_machine.proofs.Narrowing.{all_at}
use Rattle.fst_search.specs.Distances.{IsUsefulDistance}
use Rattle.fst_distance.specs.Pushing.{value_at, pushed_machine, IsPushed}
use Rattle.fst_distance.specs.PushLaws.{NoArcIsZero}
use Rattle.fst_distance.specs.Values.{HasDistances, most_distance, value_in, value_or_zero, Picks}
use Rattle.fst_distance.proofs.Potential.{distances_potential}
use Rattle.fst_distance.proofs.Connecting.{connected_next, connected_start, connected_trim, connected_distance, connected_letters, kept_at, kept_useful}
use Rattle.fst_distance.proofs.PushedMachine.{pushed_length, pushes_machine}

-- no arc of a machine weighs Zero
pub machine_some : (m : Machine Cost) → IsMachine (λ v. v) m → NoArcIsZero m
machine_some m is p k a has = (all_at (IsArc (λ v. v) (length m.states)) ((graph_of m).arcs p) k a has (is.arcs p no_state (state_below m p k a has))).weight

module _ {X : Type 0} (kind : ArcType) (wide : X → Cost) (m c : Machine Cost) (h : IsConnected m c) (some : NoArcIsZero m) (all picked : List X) (few : length all ≤ most_states) (picks : Picks h.kept all picked)
    (distances : (q : ℕ) (d : X) → slice_get all q ≡ Some d → IsUsefulDistance kind (graph_of m) q (wide d))
    (numbers : (q : ℕ) (d : X) → slice_get all q ≡ Some d → Within (length all * 1000000000000000000) (wide d))
    (kinds : (q : ℕ) (d : X) → slice_get all q ≡ Some d → IsCost kind (wide d)) where
  -- the distance of a state, as it was picked
  picked_at : (i : ℕ) → i < length c.states → (d : X) × (slice_get picked i ≡ Some d) × (p : ℕ) × (slice_get h.kept i ≡ Some p) × (slice_get all p ≡ Some d)
  picked_at i low =
      let there = kept_at m c h i low in
      let p = get_or h.kept i 0 in
      let o = picks.at i p there in
      (o.0, o.1, p, there, o.2)

  value_is : (i : ℕ) (d : X) → slice_get picked i ≡ Some d → value_in wide picked i ≡ wide d
  value_is i d e = ap (value_or_zero wide) e

  pub picked_distance : (i : ℕ) → i < length c.states → IsFinalDistance kind (graph_of c) i (value_in wide picked i)
  picked_distance i low =
      let o = picked_at i low in
      let useful = kept_useful m c h i o.2 o.3 in
      subst (IsFinalDistance kind (graph_of c) i) (sym (value_is i o.0 o.1)) (connected_distance m c h kind i o.2 (wide o.0) o.3 ((distances o.2 o.0 o.4).accessible useful.0))

  pub picked_kind : (i : ℕ) → i < length c.states → IsCost kind (value_in wide picked i)
  picked_kind i low = let o = picked_at i low in subst (IsCost kind) (sym (value_is i o.0 o.1)) (kinds o.2 o.0 o.4)

  pub picked_range : (i : ℕ) → i < length c.states → Within most_distance (value_in wide picked i)
  picked_range i low =
      let o = picked_at i low in
      subst (Within most_distance) (sym (value_is i o.0 o.1)) (Within-more (length all * 1000000000000000000) most_distance (wide o.0) (omega arith) (numbers o.2 o.0 o.4))

  pub picked_distances : HasDistances kind c (value_in wide picked)
  picked_distances = record {
    distance = picked_distance;
    potential = distances_potential kind (graph_of c) (λ p. p < length c.states) (value_in wide picked) (connected_letters m c h (λ l. l.weight ≢ infinite) some) picked_kind
        (λ p low. (connected_trim m c h p low).1) (λ p k a low has. connected_next m c h p k a has) picked_distance;
    range = picked_range;
  }

  pub picked_pushed : (total : Cost) → total ≡ value_at (value_in wide picked) c.start → IsPushed kind m (pushed_machine kind (value_in wide picked) c) total
  picked_pushed total same = record {
    connected = c;
    distances = value_in wide picked;
    trims = h;
    distance = picked_distance;
    of_kind = picked_kind;
    states = pushed_length kind (value_in wide picked) 0 c.states;
    pushes = pushes_machine kind (value_in wide picked) c (connected_start m c h) (connected_next m c h);
    start = same;
  }

-- one place more
pub picks_push : {X : Type 0} (places : List ℕ) (all picked : List X) (p : ℕ) (x : X) → slice_get all p ≡ Some x → Picks places all picked → Picks (places ++ p ∷ []) all (picked ++ x ∷ [])
picks_push {X} places all picked p x there h = record {
  size = (let a = length-append places (p ∷ []) in let b = length-append picked (x ∷ []) in let s = h.size in omega arith);
  at = at;
}
  where
    at : (i q : ℕ) → slice_get (places ++ p ∷ []) i ≡ Some q → (y : X) × (slice_get (picked ++ x ∷ []) i ≡ Some y) × (slice_get all q ≡ Some y)
    at i q e = by (push_at places p q i e)
      where
        by : (slice_get places i ≡ Some q) ⊎ ((i ≡ length places) × (p ≡ q)) → (y : X) × (slice_get (picked ++ x ∷ []) i ≡ Some y) × (slice_get all q ≡ Some y)
        by (inl old) = let o = h.at i q old in (o.0, at_append_left picked (x ∷ []) i o.0 o.1, o.2)
        by (inr new) =
            let place : i ≡ length picked = new.0 ∙ sym h.size in
            (x, ap (slice_get (picked ++ x ∷ [])) place ∙ push_last picked x, subst (λ (k : ℕ). slice_get all k ≡ Some x) new.1 there)

-- what holds of each value holds of that of the start
pub value_at_within : (k : ℕ) (d : ℕ → Cost) (n : ℕ) (start : Option ℕ) → IfSome start (λ s. s < n) → ((p : ℕ) → p < n → Within k (d p)) → Within k (value_at d start)
value_at_within k d n None low all = tt
value_at_within k d n (Some s) low all = all s low
