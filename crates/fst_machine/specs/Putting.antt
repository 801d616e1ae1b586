-- One more arc of a state, as it is kept.
use Rattle.std.specs.Prelude.{◌≡◌, ◌⊎◌, ℕ, ◌+◌, ◌≤◌, List, [], ◌∷◌, ◌++◌, length}
use Rattle.fst_machine.specs.Machine.{Arc}
use Rattle.fst_machine.specs.Store.{Slot, Apart, arcs_apart, slot_arcs, LiesIn}

-- the arc stands behind the others of the state; the store is as before, or has the arc at its end; what the other
-- states have apart from it is as before
pub record Puts {V : Type 0} (a : Arc V ℕ) (state : ℕ)
    (old : List (Arc V ℕ)) (old_apart : List (Apart V)) (before : Slot V)
    (new : List (Arc V ℕ)) (new_apart : List (Apart V)) (after : Slot V) : Type 0 where
  pub final : after.final ≡ before.final
  pub arcs : slot_arcs new new_apart state after ≡ slot_arcs old old_apart state before ++ a ∷ []
  pub inside : LiesIn (length new) after
  pub store : (new ≡ old) ⊎ (new ≡ old ++ a ∷ [])
  pub others : (first other : ℕ) → (other ≡ state → ⊥) → arcs_apart new_apart first other ≡ arcs_apart old_apart first other
  pub fits : length new + length new_apart ≤ length old + length old_apart + 1
