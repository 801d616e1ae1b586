-- The marked states of those that are kept in one store, kept in front of it.
use Rattle.std.specs.Prelude.{◌≡◌, ℕ, List, [], Bool, length, All}
use Rattle.fst_machine.specs.Machine.{Arc, arc_total}
use Rattle.fst_machine.specs.Renumbered.{marked_states}
use Rattle.fst_machine.specs.Store.{Slot, LiesIn, kept_states}

-- the states of the new slots are the marked ones of the old, and the new store has just their arcs
pub record IsRetained {V : Type 0} (marks : List Bool) (numbers : List ℕ) (slots : List (Slot V)) (store new_store : List (Arc V ℕ)) (new_slots : List (Slot V)) : Type 0 where
  pub states : kept_states new_store [] new_slots ≡ marked_states marks numbers 0 (kept_states store [] slots)
  pub counted : length new_store ≡ arc_total (kept_states new_store [] new_slots)
  pub parts : All (LiesIn (length new_store)) new_slots
