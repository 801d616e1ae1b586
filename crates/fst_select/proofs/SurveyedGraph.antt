-- The distances of a machine, as a search gives them, survey its graph.
use Rattle.std.proofs.Common.{◌≡◌, ◌≢◌, ◌⊎◌, ◌↔◌, inl, inr, ℕ, ◌<◌, ◌≤◌, Bool, true, List, [], ◌∷◌, Option, None, Some, length, map, get_or, slice_get, refl, sym, ap, ◌∙◌, subst, arith}
use Rattle.std.specs.Bool.{Decides}
use Rattle.std.specs.Option.{IfSome}
use Rattle.std.proofs.lemmas.List.{length-map}
use Rattle.std.proofs.lemmas.Option.{same_Some, slice_get_cases}
use Rattle.fst_semiring.specs.Cost.{Cost, infinite}
use Rattle.fst_semiring.specs.declared.arc_type.ArcType.{ArcType}
use Rattle.fst_machine.specs.Machine.{Arc, IsMachine, Machine, valued, valued_state}
use Rattle.fst_machine.specs.Graph.{Graph, graph_of}
use Rattle.fst_machine.specs.Paths.{Transition, IsPath}
use Rattle.fst_machine.specs.Relation.{IsSuccessful}
use Rattle.fst_machine.specs.Cycles.{IsAccessible, IsCoaccessible, IsUseful}
use Rattle.fst_machine.specs.Distance.{IsFinalDistance, IsLeast}
use Rattle.fst_machine.specs.declared.path.Step.{Step}
use Rattle.fst_search.specs.Distances.{IfImproving, IsListed, IsOpenDistance, IsOpenReached, IsUsefulDistance}
use Rattle.fst_search.specs.Hops.{IsOpen}
use Rattle.fst_search.specs.declared.fault.DistanceFault.{DistanceFault}
use Rattle.fst_search.specs.declared.fault.DistanceFault.TheVariants.{ImprovingCycle, Memory}
use Rattle.fst_search.proofs.MachineHops.{arc_good}
use Rattle.fst_distance.specs.Values.{value_in, value_or_zero}
use Rattle.fst_distance.proofs.Connecting.{coaccessible_below}
use Rattle.fst_select.specs.Surveyed.{Comes, IsSurveyed, best_of_start}
use Rattle.fst_select.proofs.GoodPaths.{distance_some, some_distance}
use Rattle.fst_select.proofs.MarkedDistances.{ends_open, marked_comes}

module _ {V D : Type 0} (kind : ArcType) (value : V → Cost) (m : Machine V) (good : IsMachine value m) (wide : D → Cost) where
  abbrev g : Graph ℕ
  g = graph_of (valued value m)

  solid : (q k : ℕ) (a : Arc Cost ℕ) → slice_get (g.arcs q) k ≡ Some a → a.weight ≡ infinite → ⊥
  solid q k a there = (arc_good value m good q k a there).2

  path_low : (path : List (Transition ℕ)) (p q : ℕ) → p < length m.states → IsPath g p path q → q < length m.states
  path_low [] p q low leads = subst (λ (z : ℕ). z < length m.states) leads low
  path_low (t ∷ path) p q low leads = path_low path t.arc.next q (arc_good value m good p t.place t.arc leads.0.1).1 leads.1

  -- a state that the start reaches is one of the machine, as is one that reaches a final one
  accessible_low : (q : ℕ) → IsAccessible g q → q < length m.states
  accessible_low q acc = path_low acc.path acc.first q (subst (λ (o : Option ℕ). IfSome o (λ s. s < length m.states)) acc.starts good.start) acc.leads

  coaccessible_low : (q : ℕ) → IsCoaccessible g q → q < length m.states
  coaccessible_low q co = let size : length (map (valued_state value) m.states) ≡ length m.states = length-map m.states (valued_state value) in omega (arith, size, coaccessible_below (valued value m) q co)

  module _ (ds : List D) (size : length ds ≡ length m.states) (distances : (q : ℕ) (x : D) → slice_get ds q ≡ Some x → IsUsefulDistance kind g q (wide x)) where
    -- the distance of a state that the start reaches
    distance_at : (q : ℕ) → IsAccessible g q → (x : D) × (slice_get ds q ≡ Some x) × IsFinalDistance kind g q (wide x)
    distance_at q acc = by (slice_get_cases ds q).1
      where
        by : ((x : D) × (q < length ds) × (slice_get ds q ≡ Some x) × (get_or ds q x ≡ x)) ⊎ ((length ds ≤ q) × (slice_get ds q ≡ None)) → (x : D) × (slice_get ds q ≡ Some x) × IsFinalDistance kind g q (wide x)
        by (inl h) = (h.0, h.2, (distances q h.0 h.2).accessible acc)
        by (inr h) = absurd (omega (arith, accessible_low q acc, h.0, size))

    to_final : (q : ℕ) → IsAccessible g q → IsFinalDistance kind g q (value_in wide ds q)
    to_final q acc = let x = distance_at q acc in subst (IsFinalDistance kind g q) (sym (ap (value_or_zero wide) x.1)) x.2

    starts_here : (first : ℕ) → m.start ≡ Some first → IsAccessible g first
    starts_here first starts = record { first = first; path = []; starts = starts; leads = refl }

    -- where the start has no distance, no path is successful
    pub none_successful : best_of_start (value_in wide ds) m.start ≡ infinite → (path : List (Transition ℕ)) (w : Cost) → IsSuccessful kind g path w → ⊥
    none_successful none path w ok =
        distance_some kind g solid ok.first (value_in wide ds ok.first) (to_final ok.first (starts_here ok.first ok.starts)) (record { last = ok.last; path = path; leads = ok.leads; final = ok.final })
        (subst (λ (o : Option ℕ). best_of_start (value_in wide ds) o ≡ infinite) ok.starts none)

    module _ (marks : List Bool) (are : (q : ℕ) (x : D) → slice_get ds q ≡ Some x → Decides (get_or marks q true) (wide x ≢ infinite)) (first : ℕ) (starts : m.start ≡ Some first) (some : value_in wide ds first ≡ infinite → ⊥) where
      live : IsCoaccessible g first
      live = some_distance kind g solid first (value_in wide ds first) (to_final first (starts_here first starts)) some

      -- of the states that the start reaches, those that reach a final one are marked
      marked : (q : ℕ) → IsAccessible g q → IsOpen marks q ↔ IsCoaccessible g q
      marked q acc =
          let x = distance_at q acc in
          let test = are q x.0 x.1 in
          ((λ e. some_distance kind g solid q (wide x.0) x.2 (test.0 e)), (λ co. test.1 (distance_some kind g solid q (wide x.0) x.2 co)))

      pub surveyed : (ss : List D) → length ss ≡ length m.states → ((q : ℕ) (x : D) → slice_get ss q ≡ Some x → IsOpenDistance marks kind g m.start q (wide x)) → IsSurveyed kind g (value_in wide ss) (value_in wide ds)
      surveyed ss count opens = record { solid = solid; from_start = from_start; to_final = to_final }
        where
          from_start : (q : ℕ) → IsLeast (Comes kind g q) (value_in wide ss q)
          from_start q = by (slice_get_cases ss q).1
            where
              by : ((x : D) × (q < length ss) × (slice_get ss q ≡ Some x) × (get_or ss q x ≡ x)) ⊎ ((length ss ≤ q) × (slice_get ss q ≡ None)) → IsLeast (Comes kind g q) (value_in wide ss q)
              by (inl h) = subst (IsLeast (Comes kind g q)) (sym (ap (value_or_zero wide) h.2))
                  (marked_comes kind g (IsOpen marks) first starts live marked q (wide h.0) (subst (λ (o : Option ℕ). IsOpenDistance marks kind g o q (wide h.0)) starts (opens q h.0 h.2)))
              by (inr h) = inl ((λ w c. omega (arith, coaccessible_low q c.goes_on, h.0, count)), ap (value_or_zero wide) h.1)

      -- a cycle on a state that is reached over marked states is one on a useful state
      pub listed_useful : (steps : List Step) → IsListed kind g (IsOpenReached marks g) steps → IsListed kind g (IsUseful g) steps
      listed_useful steps l =
          let r = l.counts in
          let same : r.first ≡ first = same_Some r.first first (sym r.starts ∙ starts) in
          let leads : IsPath g first r.path l.state = subst (λ (z : ℕ). IsPath g z r.path l.state) same r.leads in
          record {
            state = l.state;
            cycle = l.cycle;
            counts = (record { first = r.first; path = r.path; starts = r.starts; leads = r.leads }, ends_open kind g (IsOpen marks) first starts live marked [] r.path first l.state refl live leads r.class);
            improves = l.improves;
            same = l.same;
          }

-- the start, where the best weight is not Zero
pub starts_of : (d : ℕ → Cost) (o : Option ℕ) (top : Cost) → (top ≡ infinite → ⊥) → top ≡ best_of_start d o → (first : ℕ) × (o ≡ Some first) × (d first ≡ infinite → ⊥)
starts_of d None top some is = absurd (some is)
starts_of d (Some first) top some is = (first, refl, λ e. some (is ∙ e))

-- what holds of the cycle of a fault
pub improving_more : (f : DistanceFault) (P Q : List Step → Type 0) → ((steps : List Step) → P steps → Q steps) → IfImproving f P → IfImproving f Q
improving_more (ImprovingCycle cycle) P Q more h = more cycle h
improving_more Memory P Q more h = tt
