-- States whose arcs lead further on.
use Rattle.std.specs.Prelude.{ℕ, ◌+◌, ◌<◌, ◌%◌, map, All}
use Rattle.fst_machine.specs.Machine.{Arc, State}

-- the arc so many places further on
abbrev pub shifted : {V : Type 0} → ℕ → Arc V ℕ → Arc V ℕ
shifted by a = record { ilabel = a.ilabel; olabel = a.olabel; weight = a.weight; next = by + a.next }

-- the state with its arcs so many places further on
abbrev pub shifted_state : {V : Type 0} → ℕ → State V → State V
shifted_state by s = record { final = s.final; arcs = map (shifted by) s.arcs }

-- the arc so many places further on, where there is such a number
abbrev pub wrapped : {V : Type 0} → ℕ → Arc V ℕ → Arc V ℕ
wrapped by a = record { ilabel = a.ilabel; olabel = a.olabel; weight = a.weight; next = (by + a.next) % 4294967296 }

-- there are numbers for the states to which the arcs lead, so many places further on
abbrev pub HasRoom : {V : Type 0} → ℕ → State V → Type 0
HasRoom by s = All (λ a. by + a.next < 4294967296) s.arcs
