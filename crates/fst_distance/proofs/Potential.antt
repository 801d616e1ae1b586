-- The distances to the final names are a potential.
use Rattle.std.proofs.Common.{◌≡◌, ◌≢◌, ◌⊎◌, inl, inr, ℕ, List, [], ◌∷◌, Some, slice_get, sym, refl, ap, ◌∙◌}
use Rattle.fst_semiring.specs.Cost.{Cost, infinite, plus}
use Rattle.fst_semiring.specs.declared.arc_type.ArcType.{ArcType}
use Rattle.fst_semiring.specs.Semiring.{times, IsCost}
use Rattle.fst_semiring.proofs.Laws.{times_assoc, one_times, times_only_zero, one_not_zero}
use Rattle.fst_semiring.proofs.Order.{plus_infinite}
use Rattle.fst_machine.specs.Machine.{Arc}
use Rattle.fst_machine.specs.Graph.{Graph}
use Rattle.fst_machine.specs.Letters.{product}
use Rattle.fst_machine.specs.Paths.{Transition, IsPath, letters}
use Rattle.fst_machine.specs.Cycles.{IsCoaccessible}
use Rattle.fst_machine.specs.Distance.{Finishes, IsFinalDistance}
use Rattle.fst_distance.specs.PushLaws.{IsPotential}

-- factors that are not Zero have a product that is not
pub times_not_zero : (kind : ArcType) (a b : Cost) → a ≢ infinite → b ≢ infinite → times kind a b ≢ infinite
times_not_zero kind a b one two e = by (times_only_zero kind a b e)
  where
    by : (a ≡ infinite) ⊎ (b ≡ infinite) → ⊥
    by (inl h) = one h
    by (inr h) = two h

-- a value is Zero or not
pub zero_or_not : (w : Cost) → (w ≡ infinite) ⊎ (w ≡ infinite → ⊥)
zero_or_not Cost.best = inr (λ e. absurd (cc))
zero_or_not (Cost.finite a b) = inr (λ e. absurd (cc))
zero_or_not infinite = inl refl

-- an arc before a path that finishes
pub finishes_before : {N : Type 0} (kind : ArcType) (g : Graph N) (p : N) (k : ℕ) (a : Arc Cost N) (w : Cost) → slice_get (g.arcs p) k ≡ Some a → Finishes kind g a.next w → Finishes kind g p (times kind a.weight w)
finishes_before {N} kind g p k a w has f =
    let t : Transition N = record { state = p; place = k; arc = a } in
    record {
      last = f.last;
      path = t ∷ f.path;
      leads = ((refl, has), f.leads);
      final = f.final;
      weight = ap (times kind a.weight) f.weight ∙ sym (times_assoc kind a.weight (product kind (letters f.path)) (g.final f.last));
    }

-- A graph where no arc weighs Zero, and names that are meant, from each of which a path
-- goes on to a final name.
module _ {N : Type 0} (kind : ArcType) (g : Graph N) (D : N → Type 0) (d : N → Cost)
    (some : (p : N) (k : ℕ) (a : Arc Cost N) → slice_get (g.arcs p) k ≡ Some a → a.weight ≢ infinite) (of_kind : (p : N) → D p → IsCost kind (d p))
    (goes : (p : N) → D p → IsCoaccessible g p) (within : (p : N) (k : ℕ) (a : Arc Cost N) → D p → slice_get (g.arcs p) k ≡ Some a → D a.next)
    (distance : (p : N) → D p → IsFinalDistance kind g p (d p)) where
  path_some : (path : List (Transition N)) (p q : N) → IsPath g p path q → product kind (letters path) ≢ infinite
  path_some [] p q here = λ e. one_not_zero kind e
  path_some (t ∷ path) p q leads = times_not_zero kind t.arc.weight (product kind (letters path)) (some p t.place t.arc leads.0.1) (path_some path t.arc.next q leads.1)

  finishes_some : (p : N) (w : Cost) → Finishes kind g p w → w ≢ infinite
  finishes_some p w f e = times_not_zero kind (product kind (letters f.path)) (g.final f.last) (path_some f.path p f.last f.leads) f.final (sym f.weight ∙ e)

  -- some path has the distance, and none is better
  pub attained : (p : N) → D p → Finishes kind g p (d p) × ((v : Cost) → Finishes kind g p v → plus (d p) v ≡ d p)
  attained p here = by (distance p here)
    where
      by : IsFinalDistance kind g p (d p) → Finishes kind g p (d p) × ((v : Cost) → Finishes kind g p v → plus (d p) v ≡ d p)
      by (inl none) = let c = goes p here in absurd (none.0 (times kind (product kind (letters c.path)) (g.final c.last)) (record { last = c.last; path = c.path; leads = c.leads; final = c.final; weight = refl }))
      by (inr least) = least

  final_no_better : (p : N) → D p → plus (d p) (g.final p) ≡ d p
  final_no_better p here = by (zero_or_not (g.final p))
    where
      by : (g.final p ≡ infinite) ⊎ (g.final p ≡ infinite → ⊥) → plus (d p) (g.final p) ≡ d p
      by (inl none) = ap (plus (d p)) none ∙ plus_infinite (d p)
      by (inr final) = (attained p here).1 (g.final p) (record { last = p; path = []; leads = refl; final = final; weight = sym (one_times kind (g.final p)) })

  pub distances_potential : IsPotential kind d g D
  distances_potential = record {
    of_kind = of_kind;
    not_zero = λ p here. finishes_some p (d p) (attained p here).0;
    final = final_no_better;
    arc = λ p k a here has. (attained p here).1 (times kind a.weight (d a.next)) (finishes_before kind g p k a (d a.next) has (attained a.next (within p k a here has)).0);
  }
