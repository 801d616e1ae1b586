-- The states of a machine that is given away, of which the first are forgotten.
use Rattle.std.specs.Prelude.{ℕ, zero, suc, ◌-◌, ◌<◌, ◌≤◌}
use Rattle.fst_machine.specs.Store.{Slot}

-- the part of a state, if it has one, begins no earlier than here
abbrev pub BeginsFrom : {V : Type 0} → ℕ → Slot V → Type 0
BeginsFrom low s = 0 < s.count → low ≤ s.first

-- where a part of so many arcs begins that stood there
abbrev pub first_back : ℕ → ℕ → ℕ → ℕ
first_back by first zero = 0
first_back by first (suc count) = first - by

-- the slot of a state with its part so many places before; of one with no part, there is none apart from the store either
abbrev pub moved_back : {V : Type 0} → ℕ → Slot V → Slot V
moved_back by s = record { final = s.final; first = first_back by s.first s.count; count = s.count }
