-- What holds of the fields in which a machine is kept, whatever its weights are.
use Rattle.std.specs.Prelude.{◌≡◌, ℕ, ◌+◌, ◌≤◌, List, length, All}
use Rattle.fst_machine.specs.Machine.{Arc, arc_total, most_states}
use Rattle.fst_machine.specs.Store.{Slot, Apart, LiesIn, kept_states}

-- the number of arcs is kept beside them, the store and the lists apart from it are no more, each part lies in the
-- store, and the states are not too many
pub record IsKept {V : Type 0} (slots : List (Slot V)) (store : List (Arc V ℕ)) (apart : List (Apart V)) (total : ℕ) : Type 0 where
  pub counted : total ≡ arc_total (kept_states store apart slots)
  pub fits : length store + length apart ≤ total
  pub parts : All (LiesIn (length store)) slots
  pub few_states : length slots ≤ most_states
