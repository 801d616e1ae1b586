-- The states of a machine that is given away, which get arcs more where they stand.
use Rattle.std.specs.Prelude.{◌≡◌, ℕ, ◌+◌, ◌-◌, ◌≤◌, List, [], length, take, drop, All}
use Rattle.fst_machine.specs.Machine.{Arc, State, arc_total, most_arcs}
use Rattle.fst_machine.specs.SideBySide.{Follow}
use Rattle.fst_machine.specs.Store.{Slot, LiesIn, kept_states}

-- the states that have their new arcs, those that have them not yet, and for how many arcs more there is room
pub record Spread (V : Type 0) : Type 0 where
  pub done : List (State V)
  pub left : List (State V)
  pub room : ℕ

-- So many states are done. Their arcs stand in front of the store, up to an end. The arcs of the others stand as many
-- places further back than their slots tell, side by side, behind a place.
pub record IsSpreading {V : Type 0} (slots : List (Slot V)) (store : List (Arc V ℕ)) (state end back place : ℕ) : Type 0 where
  pub states : state ≤ length slots
  pub parts : All (LiesIn end) (take state slots)
  pub counted : end ≡ arc_total (kept_states (take end store) [] (take state slots))
  pub low : end ≤ back + place
  pub inside : back + place ≤ length store
  pub others : All (LiesIn (length store - back)) (drop state slots)
  pub follow : Follow place (drop state slots)
  pub few_arcs : length store ≤ most_arcs
