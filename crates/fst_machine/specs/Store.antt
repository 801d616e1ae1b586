-- How a machine keeps its arcs: one store for all states, in which each state has a part, and beside it lists of
-- arcs for the states whose part could not grow in its place.
use Rattle.std.specs.Prelude.{ℕ, zero, suc, ◌+◌, ◌<◌, ◌≤◌, ◌==◌, if◌then◌else◌, Option, None, Some, List, [], ◌∷◌, take, drop, slice_get}
use Rattle.fst_machine.specs.Machine.{Arc, State}

-- what is kept of a state
pub record Slot (V : Type 0) : Type 0 where
  pub final : V
  -- where its part of the store begins; of a state with no part, one more than the place of its list
  pub first : ℕ
  -- how many arcs its part of the store has
  pub count : ℕ

-- a list of arcs apart from the store, and the state that has it
pub record Apart (V : Type 0) : Type 0 where
  pub state : ℕ
  pub arcs : List (Arc V ℕ)

-- the arcs of a list, where it is of this state
abbrev pub arcs_of : {V : Type 0} → ℕ → Option (Apart V) → List (Arc V ℕ)
arcs_of state None = []
arcs_of state (Some x) = if x.state == state then x.arcs else []

-- the arcs that a state has apart from the store, by one more than their place
abbrev pub arcs_apart : {V : Type 0} → List (Apart V) → ℕ → ℕ → List (Arc V ℕ)
arcs_apart apart zero state = []
arcs_apart apart (suc place) state = arcs_of state (slice_get apart place)

-- a part of so many elements, or the other list where it has none
abbrev pub part_or : {X : Type 0} → ℕ → List X → List X → List X
part_or zero part other = other
part_or (suc count) part other = part

-- the arcs of a state
abbrev pub slot_arcs : {V : Type 0} → List (Arc V ℕ) → List (Apart V) → ℕ → Slot V → List (Arc V ℕ)
slot_arcs store apart state s = part_or s.count (take s.count (drop s.first store)) (arcs_apart apart s.first state)

-- a state as it is kept
abbrev pub kept_state : {V : Type 0} → List (Arc V ℕ) → List (Apart V) → ℕ → Slot V → State V
kept_state store apart state s = record { final = s.final; arcs = slot_arcs store apart state s }

-- the states as they are kept, where the first has this number
abbrev pub kept_from : {V : Type 0} → List (Arc V ℕ) → List (Apart V) → ℕ → List (Slot V) → List (State V)
kept_from store apart state [] = []
kept_from store apart state (s ∷ slots) = kept_state store apart state s ∷ kept_from store apart (suc state) slots

-- the states as they are kept
abbrev pub kept_states : {V : Type 0} → List (Arc V ℕ) → List (Apart V) → List (Slot V) → List (State V)
kept_states store apart slots = kept_from store apart 0 slots

-- the part of a state, if it has one, lies in the store
abbrev pub LiesIn : {V : Type 0} → ℕ → Slot V → Type 0
LiesIn n s = 0 < s.count → s.first + s.count ≤ n
