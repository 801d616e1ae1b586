-- The orders of the queues, over the list of the members in the order in which they were put.
use Rattle.std.specs.Prelude.{◌≡◌, ◌⊎◌, ℕ, List, [], ◌∷◌, ◌++◌, Option, Some, None}
use Rattle.fst_machine.specs.BreadthFirst.{Has}

-- a state that is absent comes last; one that is present keeps its place
abbrev pub Joins : List ℕ → ℕ → List ℕ → Type 0
Joins old state new = (Has old state × (new ≡ old)) ⊎ ((Has old state → ⊥) × (new ≡ old ++ state ∷ []))

-- the state that was put first leaves
abbrev pub TakesFirst : List ℕ → Option ℕ → List ℕ → Type 0
TakesFirst old None new = (old ≡ []) × (new ≡ [])
TakesFirst old (Some state) new = old ≡ state ∷ new

-- the state that was put last leaves
abbrev pub TakesLast : List ℕ → Option ℕ → List ℕ → Type 0
TakesLast old None new = (old ≡ []) × (new ≡ [])
TakesLast old (Some state) new = old ≡ new ++ state ∷ []
