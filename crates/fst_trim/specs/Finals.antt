-- The final states among the first of a graph over numbers.
use Rattle.std.specs.Prelude.{◌≡◌, ℕ, ◌<◌, List}
use Rattle.fst_semiring.specs.Cost.{infinite}
use Rattle.fst_machine.specs.Graph.{Graph}
use Rattle.fst_machine.specs.BreadthFirst.{Apart, Has}

-- just the final states below n, each once
pub record FoundFinals (g : Graph ℕ) (n : ℕ) (names : List ℕ) : Type 0 where
  pub apart : Apart names
  pub all : (p : ℕ) → p < n → (g.final p ≡ infinite → ⊥) → Has names p
  pub only : (p : ℕ) → Has names p → g.final p ≡ infinite → ⊥
