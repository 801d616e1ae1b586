-- States that stand one behind the other, and the arcs of the state behind them, which is still open.
use Rattle.std.specs.Prelude.{◌≡◌, ℕ, ◌≤◌, List, [], length, take, drop, All}
use Rattle.fst_machine.specs.Machine.{Arc, State, arc_total, most_arcs}
use Rattle.fst_machine.specs.Store.{Slot, LiesIn, kept_states}

pub record OpenStates (V : Type 0) : Type 0 where
  -- the states that have all their arcs
  pub states : List (State V)
  -- the arcs of the open state
  pub arcs : List (Arc V ℕ)

-- no states, and no arcs of an open one
abbrev pub none_open : {V : Type 0} → OpenStates V
none_open = record { states = []; arcs = [] }

-- the arcs of the open state stand in the store from a place on, behind all others
abbrev pub opened : {V : Type 0} → List (Slot V) → List (Arc V ℕ) → ℕ → OpenStates V
opened slots store first = record { states = kept_states (take first store) [] slots; arcs = drop first store }

-- that place is the number of the arcs before it, each part lies before it, and the arcs are not too many
pub record IsOpen {V : Type 0} (slots : List (Slot V)) (store : List (Arc V ℕ)) (first : ℕ) : Type 0 where
  pub within : first ≤ length store
  pub counted : first ≡ arc_total (kept_states (take first store) [] slots)
  pub parts : All (LiesIn first) slots
  pub few_arcs : length store ≤ most_arcs
