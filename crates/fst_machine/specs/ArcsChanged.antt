-- Machines with the arcs of each state changed, where they stand.
use Rattle.std.specs.Prelude.{◌≡◌, ℕ, List, Some, length, slice_get, take, drop}
use Rattle.fst_machine.specs.Machine.{Arc, State, Machine}
use Rattle.fst_machine.specs.Store.{Slot}

-- the machine with the arcs of each state changed, and all else as it was
pub record IsArcsChanged {V : Type 0} (changes : List (Arc V ℕ) → List (Arc V ℕ) → Type 0) (m c : Machine V) : Type 0 where
  pub start : c.start ≡ m.start
  pub size : length c.states ≡ length m.states
  pub final : (p : ℕ) (s t : State V) → slice_get m.states p ≡ Some s → slice_get c.states p ≡ Some t → t.final ≡ s.final
  pub arcs : (p : ℕ) (s t : State V) → slice_get m.states p ≡ Some s → slice_get c.states p ≡ Some t → changes s.arcs t.arcs

-- the state with these arcs in place of its own
abbrev pub with_new_arcs : {V : Type 0} → List (Arc V ℕ) → State V → State V
with_new_arcs arcs s = record { final = s.final; arcs = arcs }

-- the part of a store that a state has
abbrev pub part_of : {V : Type 0} → Slot V → List (Arc V ℕ) → List (Arc V ℕ)
part_of s store = take s.count (drop s.first store)

-- the part that each state has is changed
abbrev pub ArePartsChanged : {V : Type 0} → (List (Arc V ℕ) → List (Arc V ℕ) → Type 0) → List (Slot V) → List (Arc V ℕ) → List (Arc V ℕ) → Type 0
ArePartsChanged {V} changes slots store new = (p : ℕ) (s : Slot V) → slice_get slots p ≡ Some s → changes (part_of s store) (part_of s new)
