-- Marks on the states that the start reaches.
use Rattle.std.proofs.Common.{◌≡◌, ℕ, ◌<◌, Bool, true, false, List, [], ◌∷◌, ◌++◌, Ok, Err, Result, Some, length, get_or, slice_get, refl, ◌∙◌, arith}
use Rattle.std.specs.Bool.{Decides}
use Rattle.std.specs.Prelude.{IfErr, IfOk}
use Rattle.std.proofs.lemmas.List.{get_or_default}
use Rattle.std.proofs.lemmas.Option.{slice_get_within}
use Rattle.fst_semiring.specs.Cost.{Cost}
use Rattle.fst_semiring.specs.declared.arc_type.ArcType.{ArcType}
use Rattle.fst_machine.specs.Machine.{Arc, IsMachine, Machine, valued}
use Rattle.fst_machine.specs.Graph.{graph_of}
use Rattle.fst_machine.specs.Paths.{Transition}
use Rattle.fst_machine.specs.Cycles.{IsAccessible, IsUseful}
use Rattle.fst_machine.proofs.PathParts.{IsPath-append}
use Rattle.fst_machine.specs.declared.path.Step.{Step}
use Rattle.fst_search.specs.Distances.{IsListed, IsMarkedDistance, IsMeasured, IsUsefulDistance, MarkedCounts}
use Rattle.fst_search.specs.Hops.{IsOpen}
use Rattle.fst_search.proofs.MachineHops.{arc_good}
use Rattle.fst_search.proofs.Starting.{improving_low}

module _ {V : Type 0} (kind : ArcType) (value : V → Cost) (m : Machine V) (good : IsMachine value m) (marks : List Bool) (size : length marks ≡ length m.states) (are : (p : ℕ) → Decides (get_or marks p false) (IsAccessible (graph_of (valued value m)) p)) where
  open_reached : (q : ℕ) → q < length m.states → IsOpen marks q → IsAccessible (graph_of (valued value m)) q
  open_reached q low is_open = (are q).0 (get_or_default marks q false true (omega arith) ∙ is_open)

  reached_open : (q : ℕ) → q < length m.states → IsAccessible (graph_of (valued value m)) q → IsOpen marks q
  reached_open q low reached = get_or_default marks q true false (omega arith) ∙ (are q).1 reached

  pub reached_closed : (p k : ℕ) (a : Arc Cost ℕ) → slice_get ((graph_of (valued value m)).arcs p) k ≡ Some a → IsOpen marks p → IsOpen marks a.next
  reached_closed p k a there is_open =
      let fine = arc_good value m good p k a there in
      let r = open_reached p fine.0 is_open in
      let t : Transition ℕ = record { state = p; place = k; arc = a } in
      reached_open a.next fine.1 (record { first = r.first; path = r.path ++ t ∷ []; starts = r.starts; leads = IsPath-append (graph_of (valued value m)) r.path (t ∷ []) r.first p a.next r.leads ((refl, there), refl) })

  useful_measured : (bound : ℕ) (values : List Cost) → IsMeasured kind (graph_of (valued value m)) (IsMarkedDistance marks kind (graph_of (valued value m))) (MarkedCounts marks (graph_of (valued value m))) (length m.states) bound values
      → IsMeasured kind (graph_of (valued value m)) (IsUsefulDistance kind (graph_of (valued value m))) (IsUseful (graph_of (valued value m))) (length m.states) bound values
  useful_measured bound values d = record {
    size = d.size;
    distances = λ q v there.
        let low : q < length m.states = (let within = slice_get_within values q v there in let many = d.size in omega arith) in
        let is = d.distances q v there in
        record { accessible = λ reached. is.0 (reached_open q low reached); apart = λ not_reached. is.1 (λ o. not_reached (open_reached q low o)) };
    numbers = d.numbers;
    kinds = d.kinds;
    none = λ p cycle useful improves. d.none p cycle (reached_open p (improving_low kind value m good p cycle improves) useful.0, useful.1) improves;
  }

  pub useful_made : {D E X : Type 0} (wide : D → List Cost) (bound : ℕ) (result : Result (Result D E) X)
      → IfOk result (λ r. IfOk r (λ v. IsMeasured kind (graph_of (valued value m)) (IsMarkedDistance marks kind (graph_of (valued value m))) (MarkedCounts marks (graph_of (valued value m))) (length m.states) bound (wide v)))
      → IfOk result (λ r. IfOk r (λ v. IsMeasured kind (graph_of (valued value m)) (IsUsefulDistance kind (graph_of (valued value m))) (IsUseful (graph_of (valued value m))) (length m.states) bound (wide v)))
  useful_made wide bound (Ok (Ok v)) h = useful_measured bound (wide v) h
  useful_made wide bound (Ok (Err e)) h = tt
  useful_made wide bound (Err x) h = tt

  pub useful_cycle : {D E X : Type 0} (steps : E → List Step) (result : Result (Result D E) X)
      → IfOk result (λ r. IfErr r (λ e. IsListed kind (graph_of (valued value m)) (MarkedCounts marks (graph_of (valued value m))) (steps e)))
      → IfOk result (λ r. IfErr r (λ e. IsListed kind (graph_of (valued value m)) (IsUseful (graph_of (valued value m))) (steps e)))
  useful_cycle steps (Ok (Ok v)) h = tt
  useful_cycle steps (Ok (Err e)) h = record {
    state = h.state;
    cycle = h.cycle;
    counts = (open_reached h.state (improving_low kind value m good h.state h.cycle h.improves) h.counts.0, h.counts.1);
    improves = h.improves;
    same = h.same;
  }
  useful_cycle steps (Err x) h = tt
