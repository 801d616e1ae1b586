-- Where a state has a closure, no cycle of epsilon arcs on it is better than One.
use Rattle.std.proofs.Common.{◌≡◌, ◌⊎◌, inl, inr, ℕ, true, false, List, ◌++◌, refl, sym, ap, ◌∙◌, subst}
use Rattle.std.proofs.lemmas.Bool.{cases_Bool}
use Rattle.fst_semiring.specs.Cost.{Cost, infinite}
use Rattle.fst_semiring.specs.declared.arc_type.ArcType.{ArcType}
use Rattle.fst_semiring.specs.Semiring.{cancels, one_of, times, IsCost}
use Rattle.fst_semiring.proofs.Cancelling.{one_best, times_reflects}
use Rattle.fst_semiring.proofs.Laws.{times_one}
use Rattle.fst_machine.specs.BreadthFirst.{Has}
use Rattle.fst_machine.specs.Cycles.{IsImprovingCycle}
use Rattle.fst_machine.specs.Distance.{AllArcs, EpsilonArc, IsDistance, Reaches}
use Rattle.fst_machine.specs.Graph.{Graph}
use Rattle.fst_machine.specs.Letters.{product}
use Rattle.fst_machine.specs.Paths.{Transition, letters}
use Rattle.fst_machine.proofs.Letters.{letters-append, product-append}
use Rattle.fst_machine.proofs.PathParts.{IsPath-append}
use Rattle.fst_search.specs.Hops.{NoWorse}
use Rattle.fst_search.proofs.Order.{better_not}
use Rattle.fst_epsilon.specs.Construction.{IsClosureList}
use Rattle.fst_epsilon.proofs.Theorem.{AllArcs-append}

module _ (kind : ArcType) (g : Graph ℕ) (q : ℕ) where
  -- a cycle more
  round_more : (d : Cost) (cycle : List (Transition ℕ)) → Reaches kind g EpsilonArc q q d → AllArcs EpsilonArc cycle → IsImprovingCycle g kind q cycle → Reaches kind g EpsilonArc q q (times kind d (product kind (letters cycle)))
  round_more d cycle r class improves = record {
    path = r.path ++ cycle;
    leads = IsPath-append g r.path cycle q q q r.leads improves.leads;
    class = AllArcs-append kind g EpsilonArc r.path cycle r.class class;
    weight = ap (λ (z : Cost). times kind z (product kind (letters cycle))) r.weight ∙ (sym (product-append kind (letters r.path) (letters cycle)) ∙ ap (product kind) (sym (letters-append r.path cycle)));
  }

  distance_fair : (d : Cost) (cycle : List (Transition ℕ)) → IsDistance kind g EpsilonArc q q d → (d ≡ infinite → ⊥) → IsCost kind d → AllArcs EpsilonArc cycle → IsImprovingCycle g kind q cycle → ⊥
  distance_fair d cycle (inl none) finite cost class improves = finite none.1
  distance_fair d cycle (inr some) finite cost class improves = by_kind (cases_Bool (cancels kind))
    where
      again : NoWorse d (times kind d (product kind (letters cycle)))
      again = some.1 (times kind d (product kind (letters cycle))) (round_more d cycle some.0 class improves)

      by_kind : (cancels kind ≡ true) ⊎ (cancels kind ≡ false) → ⊥
      by_kind (inl yes_kind) =
          let turned : NoWorse (times kind d (one_of kind)) (times kind d (product kind (letters cycle))) = subst (λ (z : Cost). NoWorse z (times kind d (product kind (letters cycle)))) (sym (times_one kind d)) again in
          better_not (product kind (letters cycle)) (one_of kind) improves.better (times_reflects kind d (one_of kind) (product kind (letters cycle)) yes_kind cost finite turned)
      by_kind (inr no_kind) = one_best kind (product kind (letters cycle)) no_kind improves.better

  pub closure_fair : (closure : List (ℕ × Cost)) → IsClosureList kind g q closure → (cycle : List (Transition ℕ)) → AllArcs EpsilonArc cycle → IsImprovingCycle g kind q cycle → ⊥
  closure_fair closure l cycle class improves =
      let here : Has closure (q, l.own) = subst (λ (c : List (ℕ × Cost)). Has c (q, l.own)) (sym l.first) (inl refl) in
      distance_fair l.own cycle (l.distances q l.own here) (l.finite q l.own here) (l.kinds q l.own here) class improves
