-- That what a walk finds are states.
use Rattle.std.proofs.Common.{◌⊎◌, inl, inr, ℕ, ◌<◌, List, [], ◌∷◌, map, subst}
use Rattle.std.specs.List.{All}
use Rattle.std.proofs.lemmas.Option.{slice_get_within, get_or_from_slice_get}
use Rattle.fst_machine.specs.Machine.{Arc}
use Rattle.fst_machine.specs.BreadthFirst.{Has, Grows}
use Rattle.fst_machine.proofs.Arcs.{mapped_at}
use Rattle.fst_machine.proofs.Elements.{Has_at}
use Rattle.fst_machine.proofs.Walks.{Grows-only}

pub begins_within : (states start : ℕ) → start < states → (k : ℕ) → Has (start ∷ []) k → k < states
begins_within states start low k (inl e) = subst (λ (j : ℕ). j < states) e low
begins_within states start low k (inr none) = absurd none

pub goes_on_within : {V : Type 0} (states : ℕ) (names new : List ℕ) (arcs : List (Arc V ℕ)) → ((k : ℕ) → Has names k → k < states) → All (λ (a : Arc V ℕ). a.next < states) arcs → Grows names (map (λ (a : Arc V ℕ). a.next) arcs) new → (k : ℕ) → Has new k → k < states
goes_on_within {V} states names new arcs old good grows k h = by_part (Grows-only (map (λ (a : Arc V ℕ). a.next) arcs) names new k grows h)
  where
    by_part : Has names k ⊎ Has (map (λ (a : Arc V ℕ). a.next) arcs) k → k < states
    by_part (inl there) = old k there
    by_part (inr next) =
        let place = Has_at (map (λ (a : Arc V ℕ). a.next) arcs) k next in
        let a = mapped_at (λ (a : Arc V ℕ). a.next) arcs place.0 k place.1 in
        subst (λ (j : ℕ). j < states) a.2 (subst (λ (b : Arc V ℕ). b.next < states) (get_or_from_slice_get arcs place.0 a.0 a.0 a.1) (good place.0 a.0 (slice_get_within arcs place.0 a.0 a.1)))
