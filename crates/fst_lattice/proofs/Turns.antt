-- A list whose elements are changed one after the other.
use Rattle.std.proofs.Common.{◌≡◌, ⊎_elim, ℕ, ◌+◌, ◌<◌, ◌≤◌, List, Some, length, set, get_or, slice_get, length-set, refl, sym, ap, ◌∙◌, subst, arith}
use Rattle.std.proofs.lemmas.Bool.{cases_eq}
use Rattle.std.proofs.lemmas.Option.{slice_get-get_or, slice_get_within}
use Rattle.fst_lattice.specs.Phases.{AreEach}
use Rattle.fst_lattice.proofs.Served.{get_set_other, get_set_same}

-- those before this place are changed as R says, the others are as they were
pub record InTurn {X : Type 0} (R : X → X → Type 0) (old now : List X) (i : ℕ) : Type 0 where
  pub size : length now ≡ length old
  pub done : (k : ℕ) (w : X) → k < i → slice_get now k ≡ Some w → (v : X) × (slice_get old k ≡ Some v) × R v w
  pub rest : (k : ℕ) → i ≤ k → slice_get now k ≡ slice_get old k

module _ {X : Type 0} (R : X → X → Type 0) (old : List X) where
  pub turn_begins : InTurn R old old 0
  turn_begins = record { size = refl; done = λ k w low at. absurd (omega (arith, low)); rest = λ k low. refl }

  pub turn_goes : (now : List X) (i : ℕ) (d w : X) → InTurn R old now i → i < length now → R (get_or now i d) w → InTurn R old (set now i w) (i + 1)
  turn_goes now i d w h low r = record {
    size = length-set now i w ∙ h.size;
    done = λ k u below here. ⊎_elim
        (λ (e : k ≡ i).
        let last : w ≡ u = first w u (sym (get_set_same now i w low) ∙ (ap (slice_get (set now i w)) (sym e) ∙ here)) in
        (get_or now i d, ap (slice_get old) e ∙ (sym (h.rest i (omega arith)) ∙ slice_get-get_or now i d low), subst (R (get_or now i d)) last r))
        (λ (n : k ≡ i → ⊥). h.done k u (omega (arith, below, n)) (sym (get_set_other now i k w n) ∙ here))
        (cases_eq k i);
    rest = λ k above. get_set_other now i k w (λ e. omega (arith, e, above)) ∙ h.rest k (omega (arith, above));
  }
    where
      first : (a b : X) → Some a ≡ Some b → a ≡ b
      first a b e = cc

  pub turn_ends : (now : List X) (i : ℕ) → InTurn R old now i → length now ≤ i → AreEach R old now
  turn_ends now i h all = record { size = h.size; each = λ k w at. h.done k w (let low = slice_get_within now k w at in omega (arith, low, all)) at }
