-- States whose rooms for arcs stand side by side in one store before their arcs are there.
use Rattle.std.specs.Prelude.{◌≡◌, ℕ, ◌+◌, ◌-◌, ◌≤◌, List, [], ◌∷◌, length, map}
use Rattle.fst_machine.specs.Machine.{State, most_arcs}
use Rattle.fst_machine.specs.Store.{Slot}

-- the states with the arcs that were put so far, for how many arcs each has room in all, and how much room no state has yet
pub record Placed (V : Type 0) : Type 0 where
  pub states : List (State V)
  pub rooms : List ℕ
  pub left : ℕ

-- how many arcs each state has
abbrev pub arc_counts : {V : Type 0} → List (State V) → List ℕ
arc_counts states = map (λ s. length s.arcs) states

-- where the room of the first of these states begins; where there is none, where the rooms end
abbrev pub begin_of : {V : Type 0} → List (Slot V) → ℕ → ℕ
begin_of [] end = end
begin_of (s ∷ slots) end = s.first

-- the room of each state goes up to where that of the next begins
abbrev pub rooms_of : {V : Type 0} → List (Slot V) → ℕ → List ℕ
rooms_of [] end = []
rooms_of (s ∷ slots) end = (begin_of slots end - s.first) ∷ rooms_of slots end

-- the arcs of each state stand in its room
abbrev pub AreInRooms : {V : Type 0} → List (Slot V) → ℕ → Type 0
AreInRooms [] end = Unit {0}
AreInRooms (s ∷ slots) end = (s.first + s.count ≤ begin_of slots end) × AreInRooms slots end

-- what holds of the slots of states and of where their rooms end in a store of so many arcs
pub record ArePlaced {V : Type 0} (slots : List (Slot V)) (end size : ℕ) : Type 0 where
  pub begins : begin_of slots end ≡ 0
  pub rooms : AreInRooms slots end
  pub inside : end ≤ size
  pub few : size ≤ most_arcs
