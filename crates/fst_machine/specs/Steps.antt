-- Paths as values of the program: lists of steps, each a state and a place.
use Rattle.std.specs.Prelude.{ℕ, List, map}
use Rattle.fst_machine.specs.declared.path.Step.{Step}

-- the states and places of these steps
abbrev pub written : List Step → List (ℕ × ℕ)
written steps = map (λ s. (s.state, s.place)) steps
