-- What is known of distances, put together.
use Rattle.std.proofs.Common.{◌≡◌, ◌⊎◌, inl, inr, ℕ, ◌+◌, ◌*◌, ◌<◌, ◌≤◌, zero, suc, Bool, true, false, true≢false, List, [], ◌∷◌, Some, length, map, get_or, slice_get, refl, sym, ap, subst, ◌∙◌, arith}
use Rattle.std.specs.Bool.{Decides}
use Rattle.std.specs.Option.{option_map}
use Rattle.std.specs.List.{All}
use Rattle.std.proofs.Math.Nat.{mul-le-mul_left, mul-le-mul_right}
use Rattle.std.proofs.lemmas.Bool.{cases_eq, cases_lt}
use Rattle.std.proofs.lemmas.List.{get_or_past, length-map}
use Rattle.std.proofs.lemmas.Option.{get_or_from_slice_get, same_Some}
use Rattle.fst_semiring.specs.Cost.{Cost, infinite}
use Rattle.fst_semiring.specs.declared.arc_type.ArcType.{ArcType}
use Rattle.fst_semiring.specs.Semiring.{IsCost, Within}
use Rattle.fst_semiring.proofs.Ranges.{Within-more}
use Rattle.fst_machine.specs.Machine.{Arc, IsMachine, Machine, State, valued, valued_arc}
use Rattle.fst_machine.specs.Graph.{graph_of}
use Rattle.fst_machine.specs.Cycles.{IsAccessible}
use Rattle.fst_machine.specs.Distance.{IsFinalDistance}
use Rattle.fst_machine.proofs.Arcs.{at_mapped}
use Rattle.fst_machine.proofs.Connected.{accessible_next}
use Rattle.fst_search.specs.Distances.{IsUsefulDistance}
use Rattle.fst_search.specs.Searching.{most_number}
use Rattle.fst_search.proofs.Links.{arcs_in_graph, arcs_of}
use Rattle.fst_search.proofs.MachineHops.{arc_before, arc_good}
use Rattle.fst_nbest.specs.Ready.{HasDistances, dist_in, most_distance}

-- what stands in a place of a list, unless it is past the end
in_place : {X : Type 0} (xs : List X) (i : ℕ) → i < length xs → (x : X) × (slice_get xs i ≡ Some x)
in_place [] i low = absurd (omega (arith, low))
in_place (x ∷ xs) zero low = (x, refl)
in_place (x ∷ xs) (suc i) low = in_place xs i (omega (arith, low))

-- the arcs of a state that were read
pub arcs_read : {V : Type 0} (states : List (State V)) (q : ℕ) (arcs : List (Arc V ℕ)) → option_map (λ s. s.arcs) (slice_get states q) ≡ Some arcs → arcs_of states q ≡ arcs
arcs_read [] q arcs e = absurd (cc)
arcs_read (s ∷ states) zero arcs e = same_Some s.arcs arcs e
arcs_read (s ∷ states) (suc q) arcs e = arcs_read states q arcs e

-- what holds of the arcs of a state that were read holds of those of the graph
pub every_arc : {V : Type 0} (value : V → Cost) (P : Arc Cost ℕ → Type 0) (m : Machine V) (q : ℕ) (arcs : List (Arc V ℕ)) → option_map (λ s. s.arcs) (slice_get m.states q) ≡ Some arcs
    → ((k : ℕ) (a : Arc V ℕ) → slice_get arcs k ≡ Some a → P (valued_arc value a)) → (k : ℕ) (a : Arc Cost ℕ) → slice_get ((graph_of (valued value m)).arcs q) k ≡ Some a → P a
every_arc value P m q arcs read all k a there =
    let b = arc_before value m q k a there in
    let here : slice_get arcs k ≡ Some b.0 = ap (λ (l : List (Arc _ ℕ)). slice_get l k) (sym (arcs_read m.states q arcs read)) ∙ b.1 in
    subst P b.2 (all k b.0 here)

-- what holds of those before a place, and of the one there
pub one_more : {X : Type 0} (P : X → Type 0) (xs : List X) (i : ℕ) (x : X) → slice_get xs i ≡ Some x → P x → ((k : ℕ) (y : X) → k < i → slice_get xs k ≡ Some y → P y) → (k : ℕ) (y : X) → k < i + 1 → slice_get xs k ≡ Some y → P y
one_more P xs i x at here before k y low there = by (cases_eq k i)
  where
    by : (k ≡ i) ⊎ (k ≡ i → ⊥) → P y
    by (inl e) = subst P (same_Some x y (sym at ∙ (ap (slice_get xs) (sym e) ∙ there))) here
    by (inr other) = before k y (let l : (k ≡ i → ⊥) = other in omega (arith, low, l)) there

module _ {V D : Type 0} (kind : ArcType) (value : V → Cost) (wide : D → Cost) (known : V → Type 0) (bound : ℕ) (few : bound ≤ most_number) (m : Machine V) (good : IsMachine value m) (dist : List D) (marks : List Bool)
    (size : length dist ≡ length m.states) (marks_size : length marks ≡ length m.states) (are : (p : ℕ) → Decides (get_or marks p false) (IsAccessible (graph_of (valued value m)) p))
    (distances : (q : ℕ) (d : D) → slice_get dist q ≡ Some d → IsUsefulDistance kind (graph_of (valued value m)) q (wide d)) (numbers : (q : ℕ) (d : D) → slice_get dist q ≡ Some d → Within (length m.states * bound) (wide d))
    (kinds : (q : ℕ) (d : D) → slice_get dist q ≡ Some d → IsCost kind (wide d)) where
  read : (q : ℕ) (d : D) → slice_get dist q ≡ Some d → wide d ≡ dist_in wide dist q
  read q d there = sym (get_or_from_slice_get (map wide dist) q (wide d) infinite (at_mapped wide dist q d there))

  past_end : (q : ℕ) → length m.states ≤ q → dist_in wide dist q ≡ infinite
  past_end q past = get_or_past (map wide dist) q infinite (let many = length-map dist wide in omega (arith, many, size, past))

  -- what holds of each distance, and of Zero
  of_all : (P : Cost → Type 0) → P infinite → ((q : ℕ) (d : D) → slice_get dist q ≡ Some d → P (wide d)) → (q : ℕ) → P (dist_in wide dist q)
  of_all P zero_too all q = by (cases_lt q (length m.states))
    where
      by : (q < length m.states) ⊎ (length m.states ≤ q) → P (dist_in wide dist q)
      by (inl low) = let d = in_place dist q (omega (arith, low, size)) in subst P (read q d.0 d.1) (all q d.0 d.1)
      by (inr past) = subst P (sym (past_end q past)) zero_too

  pub gathered : ((q k : ℕ) (a : Arc Cost ℕ) → slice_get ((graph_of (valued value m)).arcs q) k ≡ Some a → IsCost kind a.weight) → All (λ s. All (λ a. known a.weight) s.arcs) m.states → All (λ s. known s.final) m.states
      → HasDistances kind value wide known m dist
  gathered costs weights finals = record {
    dist_size = size;
    exact = record {
      kept = λ q. get_or marks q false;
      start = λ q is. (are q).1 (record { first = q; path = []; starts = is; leads = refl });
      along = λ q k a kept there. (are a.next).1 (accessible_next (graph_of (valued value m)) q k a ((are q).0 kept) there);
      here = λ q kept. here q kept (cases_lt q (length m.states));
      others = λ q apart. others q apart (cases_lt q (length m.states));
    };
    firm = record { solid = λ q k a there. (arc_good value m good q k a there).2; cost = costs };
    numbers = of_all (Within most_distance) tt (λ q d there. Within-more (length m.states * bound) most_distance (wide d) enough (numbers q d there));
    kinds = of_all (IsCost kind) (zero_kind kind) kinds;
    weights = weights;
    finals = finals;
  }
    where
      enough : length m.states * bound ≤ most_distance
      enough =
          let one = mul-le-mul_right bound good.few_states in
          let two = mul-le-mul_left 4194304 few in
          omega (arith, one, two)

      zero_kind : (k : ArcType) → IsCost k infinite
      zero_kind k = tt

      here : (q : ℕ) → get_or marks q false ≡ true → (q < length m.states) ⊎ (length m.states ≤ q) → IsFinalDistance kind (graph_of (valued value m)) q (dist_in wide dist q)
      here q marked (inl low) =
          let d = in_place dist q (omega (arith, low, size)) in
          subst (λ (c : Cost). IsFinalDistance kind (graph_of (valued value m)) q c) (read q d.0 d.1) ((distances q d.0 d.1).accessible ((are q).0 marked))
      here q marked (inr past) = absurd (true≢false (sym marked ∙ get_or_past marks q false (omega (arith, marks_size, past))))

      others : (q : ℕ) → get_or marks q false ≡ false → (q < length m.states) ⊎ (length m.states ≤ q) → dist_in wide dist q ≡ infinite
      others q unmarked (inl low) =
          let d = in_place dist q (omega (arith, low, size)) in
          sym (read q d.0 d.1) ∙ (distances q d.0 d.1).apart (λ there. true≢false (sym ((are q).1 there) ∙ unmarked))
      others q unmarked (inr past) = past_end q past

-- how many arcs a state has
pub arcs_length : {V : Type 0} (value : V → Cost) (m : Machine V) (q : ℕ) (arcs : List (Arc V ℕ)) → option_map (λ s. s.arcs) (slice_get m.states q) ≡ Some arcs → length ((graph_of (valued value m)).arcs q) ≡ length arcs
arcs_length value m q arcs read = ap length (arcs_in_graph value m.states q) ∙ (length-map (arcs_of m.states q) (valued_arc value) ∙ ap length (arcs_read m.states q arcs read))
