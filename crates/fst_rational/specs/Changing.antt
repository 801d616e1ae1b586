-- Machines whose states are changed one by one.
use Rattle.std.specs.Prelude.{ℕ, List, [], ◌++◌, length, sum_by, map, Option, None, Some}
use Rattle.fst_semiring.specs.Cost.{Cost}
use Rattle.fst_machine.specs.Machine.{Arc, State}
use Rattle.fst_machine.specs.Continuing.{leaving}

-- the epsilon arc by which a state with this final weight goes on, where there is somewhere to go
abbrev pub onward : Cost → Option ℕ → List (Arc Cost ℕ)
onward w None = []
onward w (Some c) = leaving w c

-- The state with each arc changed, with another final weight, and behind its arcs the epsilon arc by which it
-- goes on.
abbrev pub changed_state : (Arc Cost ℕ → Arc Cost ℕ) → (Cost → Cost) → Option ℕ → State Cost → State Cost
changed_state arc final target s = record { final = final s.final; arcs = map arc s.arcs ++ onward s.final target }

-- how many states go on
abbrev pub goings : Option ℕ → List (State Cost) → ℕ
goings target states = sum_by (λ s. length (onward s.final target)) states
