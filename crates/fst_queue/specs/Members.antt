-- The members of a queue of states: a list whose order says nothing.
use Rattle.std.specs.Prelude.{◌≡◌, ◌≢◌, ◌⊎◌, ◌↔◌, ℕ, List, [], Option, Some, None}
use Rattle.fst_machine.specs.BreadthFirst.{Has}

-- the members after a put of a state: it and the old ones, so that a state that was present changes nothing
abbrev pub Adds : List ℕ → ℕ → List ℕ → Type 0
Adds old state new = (q : ℕ) → Has new q ↔ (Has old q ⊎ (q ≡ state))

-- the members after a take: none before it and after it, or the old ones without the state that was one of them
abbrev pub Takes : List ℕ → Option ℕ → List ℕ → Type 0
Takes old None new = (old ≡ []) × (new ≡ [])
Takes old (Some state) new = Has old state × ((q : ℕ) → Has new q ↔ (Has old q × (q ≢ state)))
