-- From the least values that arrive by hops to the distances of graphs.
use Rattle.std.proofs.Common.{◌≡◌, ◌⊎◌, ◌*◌, inl, inr, ℕ, List, [], ◌∷◌, Some, map, slice_get, sym, refl, ap, ◌∙◌, subst}
use Rattle.std.proofs.lemmas.Bool.{cases_eq}
use Rattle.std.specs.declared.cmp.Ordering.TheVariants.{Less}
use Rattle.fst_semiring.specs.Cost.{Cost, cost_cmp, infinite}
use Rattle.fst_semiring.specs.declared.arc_type.ArcType.{ArcType}
use Rattle.fst_semiring.specs.Semiring.{one_of, times, IsCost, Within}
use Rattle.fst_semiring.proofs.Laws.{one_not_zero, times_one}
use Rattle.fst_machine.specs.Machine.{Arc}
use Rattle.fst_machine.specs.Graph.{Graph}
use Rattle.fst_machine.specs.Letters.{product}
use Rattle.fst_machine.specs.Paths.{Transition, IsPath, letters, places}
use Rattle.fst_machine.specs.Steps.{written}
use Rattle.fst_machine.specs.Cycles.{IsCoaccessible, IsImprovingCycle}
use Rattle.fst_machine.specs.Distance.{AllArcs, AnyArc, Finishes, IsDistance, IsFinalDistance, IsLeast, Reaches}
use Rattle.fst_machine.specs.declared.path.Step.{Step}
use Rattle.fst_machine.proofs.Arcs.{at_mapped}
use Rattle.fst_machine.proofs.Least.{least_same}
use Rattle.fst_search.specs.declared.direction.Direction.{Direction}
use Rattle.fst_search.specs.declared.direction.Direction.TheVariants.{FromStart, ToFinals}
use Rattle.fst_search.specs.ArcHops.{Along, Back}
use Rattle.fst_search.specs.Beginning.{IsOnly}
use Rattle.fst_search.specs.Cycles.{IsFound, hop_step, in_order}
use Rattle.fst_search.specs.Distances.{IsListed, IsMeasured}
use Rattle.fst_search.specs.Hops.{Hop, Arrives, Better, IsBack, IsNet, hops_product, value_by}
use Rattle.fst_search.proofs.Ending.{least_fair}
use Rattle.fst_search.proofs.Rounds.{arrives_finite}
use Rattle.fst_search.proofs.HopPaths.{backward_back, backward_path, forward_back, forward_path}

-- a value that is reached is not Zero, nor is the least of them
least_finite : (kind : ArcType) (Goes : Hop → Type 0) (source : ℕ → Cost) (n : ℕ) → IsNet Goes n → (p : ℕ) (d : Cost) → IsLeast (Arrives kind Goes source p) d → (w : Cost) → Arrives kind Goes source p w → d ≡ infinite → ⊥
least_finite kind Goes source n net p d (inl none) w a e = none.0 w a
least_finite kind Goes source n net p d (inr some) w a e = arrives_finite kind Goes source n net p d some.0 e

-- hops round from a state with a value are not better than One where the values are least
fair : (kind : ArcType) (Goes : Hop → Type 0) (source : ℕ → Cost) (n : ℕ) → IsNet Goes n → (p : ℕ) (d : Cost) → IsLeast (Arrives kind Goes source p) d → IsCost kind d → (w : Cost) → Arrives kind Goes source p w
    → (hops : List Hop) → IsBack Goes p hops p → Better (hops_product kind hops) (one_of kind) → ⊥
fair kind Goes source n net p d least cost w a hops leads better = least_fair kind Goes source p d hops least cost (least_finite kind Goes source n net p d least w a) leads better

module _ (kind : ArcType) (g : Graph ℕ) (Goes : Hop → Type 0) where
  module _ (Class : Arc Cost ℕ → Type 0) (along : (h : Hop) → Goes h → Along g Class h) (source : ℕ → Cost) (start : ℕ) (only : IsOnly kind source start) where
    pub begins_there : (p : ℕ) → (source p ≡ infinite → ⊥) → p ≡ start
    begins_there p some = by_place (cases_eq p start)
      where
        by_place : (p ≡ start) ⊎ (p ≡ start → ⊥) → p ≡ start
        by_place (inl e) = e
        by_place (inr other) = absurd (some (only.others p other))

    pub arrives_reaches : (q : ℕ) (w : Cost) → Arrives kind Goes source q w → Reaches kind g Class start q w
    arrives_reaches q w a =
        let there = begins_there a.first a.begins in
        let f = forward_path kind g Goes Class along a.back q a.first a.leads in
        record {
          path = f.path;
          leads = subst (λ (p : ℕ). IsPath g p f.path q) there f.leads;
          class = f.class;
          weight = a.weight ∙ (ap (times kind (hops_product kind a.back)) (ap source there ∙ only.here) ∙ (times_one kind (hops_product kind a.back) ∙ sym f.product_same));
        }

    pub class_distance : ((h : Hop) → Along g Class h → Goes h) → (q : ℕ) (d : Cost) → IsLeast (Arrives kind Goes source q) d → IsDistance kind g Class start q d
    class_distance goes q d least = least_same (Arrives kind Goes source q) (Reaches kind g Class start q) d (arrives_reaches q) back least
      where
        back : (w : Cost) → Reaches kind g Class start q w → Arrives kind Goes source q w
        back w r =
            let b = forward_back kind g Goes Class goes r.path start q r.leads r.class in
            record {
              back = b.0;
              first = start;
              leads = b.1;
              begins = λ e. one_not_zero kind (sym only.here ∙ e);
              weight = r.weight ∙ (sym b.2 ∙ (sym (times_one kind (hops_product kind b.0)) ∙ ap (times kind (hops_product kind b.0)) (sym only.here)));
            }

    -- where the values are least, no cycle of arcs of the class on a state that such arcs reach is better than One
    pub fair_from_start : ((h : Hop) → Along g Class h → Goes h) → (n : ℕ) → IsNet Goes n → (p : ℕ) (d : Cost) → IsLeast (Arrives kind Goes source p) d → IsCost kind d
        → (cycle path : List (Transition ℕ)) → IsPath g start path p → AllArcs Class path → AllArcs Class cycle → IsImprovingCycle g kind p cycle → ⊥
    fair_from_start goes n net p d least cost cycle path leads class round improves =
        let b = forward_back kind g Goes Class goes cycle p p improves.leads round in
        let a = forward_back kind g Goes Class goes path start p leads class in
        fair kind Goes source n net p d least cost (value_by kind source a.0 start) (record { back = a.0; first = start; leads = a.1; begins = λ e. one_not_zero kind (sym only.here ∙ e); weight = refl })
        b.0 b.1 (subst (λ z. cost_cmp z (one_of kind) ≡ Less) (sym b.2) improves.better)

  -- every path is one of any arcs
  pub any_arcs : (path : List (Transition ℕ)) → AllArcs AnyArc path
  any_arcs [] = tt
  any_arcs (t ∷ path) = (tt, any_arcs path)

  -- no path arrives where nothing begins
  pub nothing_arrives : (source : ℕ → Cost) → ((q : ℕ) → source q ≡ infinite) → (q : ℕ) (d : Cost) → IsLeast (Arrives kind Goes source q) d → d ≡ infinite
  nothing_arrives source none q d (inl h) = h.1
  nothing_arrives source none q d (inr h) = absurd (h.0.begins (none h.0.first))

  -- a cycle that is found is listed, as a path with the product and the steps of its hops
  listed : (source : ℕ → Cost) (Counting : ℕ → Type 0) → ((q : ℕ) (w : Cost) → Arrives kind Goes source q w → Counting q) → (direction : Direction) (steps : List Step) (f : IsFound kind Goes source direction steps)
      → (path : List (Transition ℕ)) → IsPath g f.state path f.state → product kind (letters path) ≡ hops_product kind (f.first ∷ f.rest) → written (in_order direction (map (hop_step direction) (f.first ∷ f.rest))) ≡ places path → IsListed kind g Counting steps
  listed source Counting counts direction steps f path leads product_same same = record {
    state = f.state;
    cycle = path;
    counts = counts f.state f.distance f.arrives;
    improves = record { leads = leads; better = subst (λ z. cost_cmp z (one_of kind) ≡ Less) (sym product_same) f.better };
    same = ap written f.same ∙ same;
  }

  -- the cycle that is found, from the start
  pub found_from_start : (Class : Arc Cost ℕ → Type 0) → ((h : Hop) → Goes h → Along g Class h) → (source : ℕ → Cost) (Counting : ℕ → Type 0) → ((q : ℕ) (w : Cost) → Arrives kind Goes source q w → Counting q)
      → (steps : List Step) → IsFound kind Goes source FromStart steps → IsListed kind g Counting steps
  found_from_start Class along source Counting counts steps f =
      let p = forward_path kind g Goes Class along (f.first ∷ f.rest) f.state f.state f.leads in
      listed source Counting counts FromStart steps f p.path p.leads p.product_same p.steps

  -- and the one that is found to the final states
  pub found_to_finals : ((h : Hop) → Goes h → Back g h) → (source : ℕ → Cost) (Counting : ℕ → Type 0) → ((q : ℕ) (w : Cost) → Arrives kind Goes source q w → Counting q)
      → (steps : List Step) → IsFound kind Goes source ToFinals steps → IsListed kind g Counting steps
  found_to_finals along source Counting counts steps f =
      let p = backward_path kind g Goes along (f.first ∷ f.rest) f.state f.state f.leads in
      listed source Counting counts ToFinals steps f p.path p.leads p.product_same p.steps

  module _ (Domain : ℕ → Type 0) (along : (h : Hop) → Goes h → Back g h) (goes : (h : Hop) → Domain h.to → Back g h → Goes h × Domain h.from) (source : ℕ → Cost)
      (ends : (q : ℕ) → (source q ≡ infinite → ⊥) → source q ≡ g.final q) (starts : (q : ℕ) → Domain q → source q ≡ g.final q) where
    domain_along : (path : List (Transition ℕ)) (q p : ℕ) → Domain q → IsPath g q path p → Domain p
    domain_along [] q p meant leads = subst Domain leads meant
    domain_along (t ∷ path) q p meant leads = domain_along path t.arc.next p (goes (record { from = t.arc.next; to = q; place = t.place; weight = t.arc.weight }) meant (record { arc = t.arc; there = leads.0.1; next = refl; weight = refl })).1 leads.1

    pub arrives_finishes : (q : ℕ) (w : Cost) → Arrives kind Goes source q w → Finishes kind g q w
    arrives_finishes q w a =
        let b = backward_path kind g Goes along a.back q a.first a.leads in
        record {
          last = a.first;
          path = b.path;
          leads = b.leads;
          final = λ e. a.begins (ends a.first a.begins ∙ e);
          weight = a.weight ∙ (ap (times kind (hops_product kind a.back)) (ends a.first a.begins) ∙ ap (λ z. times kind z (g.final a.first)) (sym b.product_same));
        }

    pub final_distance : (q : ℕ) (d : Cost) → Domain q → IsLeast (Arrives kind Goes source q) d → IsFinalDistance kind g q d
    final_distance q d meant least = least_same (Arrives kind Goes source q) (Finishes kind g q) d (arrives_finishes q) back least
      where
        back : (w : Cost) → Finishes kind g q w → Arrives kind Goes source q w
        back w f =
            let b = backward_back kind g Goes Domain goes f.path q f.last meant f.leads in
            let is : source f.last ≡ g.final f.last = starts f.last (domain_along f.path q f.last meant f.leads) in
            record {
              back = b.0;
              first = f.last;
              leads = b.1;
              begins = λ e. f.final (sym is ∙ e);
              weight = f.weight ∙ (ap (λ z. times kind z (g.final f.last)) (sym b.2) ∙ ap (times kind (hops_product kind b.0)) (sym is));
            }

    -- a state of the domain that reaches a final one has a value
    pub coaccessible_arrives : (p : ℕ) → Domain p → IsCoaccessible g p → (w : Cost) × Arrives kind Goes source p w
    coaccessible_arrives p meant co =
        let b = backward_back kind g Goes Domain goes co.path p co.last meant co.leads in
        let is : source co.last ≡ g.final co.last = starts co.last (domain_along co.path p co.last meant co.leads) in
        (value_by kind source b.0 co.last, record { back = b.0; first = co.last; leads = b.1; begins = λ e. co.final (sym is ∙ e); weight = refl })

    -- where the values are least, no cycle on such a state is better than One
    pub fair_to_finals : (n : ℕ) → IsNet Goes n → (p : ℕ) (d : Cost) → IsLeast (Arrives kind Goes source p) d → IsCost kind d → (cycle : List (Transition ℕ)) → Domain p → IsCoaccessible g p
        → IsImprovingCycle g kind p cycle → ⊥
    fair_to_finals n net p d least cost cycle meant co improves =
        let b = backward_back kind g Goes Domain goes cycle p p meant improves.leads in
        let a = coaccessible_arrives p meant co in
        fair kind Goes source n net p d least cost a.0 a.1 b.0 b.1 (subst (λ z. cost_cmp z (one_of kind) ≡ Less) (sym b.2) improves.better)

-- what is measured of a list of wide weights holds of each
pub each_number : {X : Type 0} (wide : X → Cost) (kind : ArcType) (g : Graph ℕ) (Distance : ℕ → Cost → Type 0) (Counting : ℕ → Type 0) (n bound : ℕ) (list : List X) → IsMeasured kind g Distance Counting n bound (map wide list)
    → (q : ℕ) (d : X) → slice_get list q ≡ Some d → Within (n * bound) (wide d)
each_number wide kind g Distance Counting n bound list made q d there = made.numbers q (wide d) (at_mapped wide list q d there)

pub each_kind : {X : Type 0} (wide : X → Cost) (kind : ArcType) (g : Graph ℕ) (Distance : ℕ → Cost → Type 0) (Counting : ℕ → Type 0) (n bound : ℕ) (list : List X) → IsMeasured kind g Distance Counting n bound (map wide list)
    → (q : ℕ) (d : X) → slice_get list q ≡ Some d → IsCost kind (wide d)
each_kind wide kind g Distance Counting n bound list made q d there = made.kinds q (wide d) (at_mapped wide list q d there)
