-- States whose arcs stand behind those of the states before them.
use Rattle.std.specs.Prelude.{ℕ, zero, suc, ◌+◌, ◌<◌, ◌≤◌, List, [], ◌∷◌}
use Rattle.fst_machine.specs.Store.{Slot}

-- where a part of so many arcs ends; where it has none, the place is as before
abbrev pub end_of : ℕ → ℕ → ℕ → ℕ
end_of behind first zero = behind
end_of behind first (suc more) = first + suc more

-- the part of each state begins behind the parts of the states before it, of which the first begins behind a place
abbrev pub Follow : {V : Type 0} → ℕ → List (Slot V) → Type 0
Follow behind [] = Unit {0}
Follow behind (s ∷ slots) = (0 < s.count → behind ≤ s.first) × Follow (end_of behind s.first s.count) slots
