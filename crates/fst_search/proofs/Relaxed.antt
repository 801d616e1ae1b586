-- Distances to the final names along arcs.
use Rattle.std.proofs.Common.{◌≡◌, ◌⊎◌, inl, inr, ℕ, [], ◌∷◌, Some, slice_get, sym, refl, ap, ◌∙◌, subst}
use Rattle.fst_semiring.specs.Cost.{Cost, infinite}
use Rattle.fst_semiring.specs.declared.arc_type.ArcType.{ArcType}
use Rattle.fst_semiring.specs.Semiring.{times}
use Rattle.fst_semiring.proofs.Laws.{one_times, times_assoc, times_zero}
use Rattle.fst_machine.specs.Machine.{Arc}
use Rattle.fst_machine.specs.Graph.{Graph}
use Rattle.fst_machine.specs.Letters.{product}
use Rattle.fst_machine.specs.Paths.{letters}
use Rattle.fst_machine.specs.Distance.{Finishes, IsFinalDistance}
use Rattle.fst_search.specs.Hops.{NoWorse}
use Rattle.fst_search.proofs.Order.{before_infinite}
use Rattle.fst_search.proofs.Rounds.{infinite_or_not}

module _ {N : Type 0} (kind : ArcType) (g : Graph N) where
  -- a distance is no worse than what finishes
  no_worse_than : (p : N) (d w : Cost) → IsFinalDistance kind g p d → Finishes kind g p w → NoWorse d w
  no_worse_than p d w (inl none) f = absurd (none.0 w f)
  no_worse_than p d w (inr some) f = some.1 w f

  pub relaxed_final : (p : N) (d : Cost) → IsFinalDistance kind g p d → NoWorse d (g.final p)
  relaxed_final p d is = by_case (infinite_or_not (g.final p))
    where
      by_case : (g.final p ≡ infinite) ⊎ (g.final p ≡ infinite → ⊥) → NoWorse d (g.final p)
      by_case (inl e) = subst (NoWorse d) (sym e) (before_infinite d)
      by_case (inr some) = no_worse_than p d (g.final p) is (record { last = p; path = []; leads = refl; final = some; weight = sym (one_times kind (g.final p)) })

  pub relaxed_arc : (p : N) (k : ℕ) (a : Arc Cost N) (d e : Cost) → slice_get (g.arcs p) k ≡ Some a → IsFinalDistance kind g p d → IsFinalDistance kind g a.next e → NoWorse d (times kind a.weight e)
  relaxed_arc p k a d e there is (inl none) = subst (NoWorse d) (sym (ap (times kind a.weight) none.1 ∙ times_zero kind a.weight)) (before_infinite d)
  relaxed_arc p k a d e there is (inr (f, least)) = no_worse_than p d (times kind a.weight e) is (record {
    last = f.last;
    path = record { state = p; place = k; arc = a } ∷ f.path;
    leads = ((refl, there), f.leads);
    final = f.final;
    weight = ap (times kind a.weight) f.weight ∙ sym (times_assoc kind a.weight (product kind (letters f.path)) (g.final f.last));
  })
