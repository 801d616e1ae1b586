-- Which names a composition reaches, and how many.
use Rattle.std.specs.Prelude.{◌≡◌, ℕ, ◌<◌, ◌≤◌, List, Some, slice_get}
use Rattle.fst_semiring.specs.Cost.{Cost}
use Rattle.fst_semiring.specs.declared.arc_type.ArcType.{ArcType}
use Rattle.fst_machine.specs.Machine.{Arc}
use Rattle.fst_machine.specs.Graph.{Graph}
use Rattle.fst_machine.specs.BreadthFirst.{Has, IsBreadthFirst}
use Rattle.fst_compose.specs.Names.{Name}
use Rattle.fst_compose.specs.Composition.{composed}

-- a name whose two states are below these numbers, and whose filter is 0 or 1
abbrev pub IsNameBelow : ℕ → ℕ → Name ℕ ℕ → Type 0
IsNameBelow states others n = (n.first < states) × (n.second < others) × (n.filter ≤ 1)

-- arcs from where P holds lead to where P holds
abbrev pub Keeps : {N : Type 0} → (N → Type 0) → Graph N → Type 0
Keeps {N} P g = (p : N) (k : ℕ) (a : Arc Cost N) → P p → slice_get (g.arcs p) k ≡ Some a → P a.next

-- Where arcs of two graphs lead to states below these numbers, names of the composition keep below, so that each
-- name of the finished list is.
pub record NameLaws (kind : ArcType) (a b : Graph ℕ) (states others : ℕ) : Type 0 where
  pub keeps : Keeps (λ p. p < states) a → Keeps (λ p. p < others) b → Keeps (IsNameBelow states others) (composed kind a b)
  pub below : Keeps (λ p. p < states) a → Keeps (λ p. p < others) b → (start : Name ℕ ℕ) (names : List (Name ℕ ℕ)) → IsNameBelow states others start
      → IsBreadthFirst (composed kind a b) start names → (n : Name ℕ ℕ) → Has names n → IsNameBelow states others n
