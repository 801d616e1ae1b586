-- Lists of successful paths as they are written down.
use Rattle.std.specs.Prelude.{◌≡◌, ℕ, ◌<◌, List, Some, length, map}
use Rattle.fst_semiring.specs.Cost.{infinite}
use Rattle.fst_semiring.specs.declared.arc_type.ArcType.{ArcType}
use Rattle.fst_machine.specs.Graph.{Graph}
use Rattle.fst_machine.specs.Paths.{places, IsWalk}
use Rattle.fst_machine.specs.Relation.{IsSuccessful}
use Rattle.fst_machine.specs.BreadthFirst.{Has}
use Rattle.fst_machine.specs.PathOrder.{WeightedPath}

-- these states and places lead from the start to a final name
pub record IsSuccessfulWalk {N : Type 0} (g : Graph N) (walk : List (N × ℕ)) : Type 0 where
  pub first : N
  pub last : N
  pub starts : g.start ≡ Some first
  pub leads : IsWalk g first walk last
  pub final : g.final last ≡ infinite → ⊥

-- each of these does
abbrev pub AreSuccessfulWalks : {N : Type 0} → Graph N → List (List (N × ℕ)) → Type 0
AreSuccessfulWalks g walks = (walk : List (_ × ℕ)) → Has walks walk → IsSuccessfulWalk g walk

-- The listed paths are successful, and are written down as these.
pub record IsWritten {N : Type 0} (kind : ArcType) (g : Graph N) (listed : List (WeightedPath N)) (walks : List (List (N × ℕ))) : Type 0 where
  pub successful : (a : WeightedPath N) → Has listed a → IsSuccessful kind g a.path a.weight
  pub written : map (λ a. places a.path) listed ≡ walks

-- a state and the place of one of its arcs
abbrev pub IsStep : {N : Type 0} → Graph N → N × ℕ → Type 0
IsStep g s = s.1 < length (g.arcs s.0)

-- each of these is one
abbrev pub AreSteps : {N : Type 0} → Graph N → List (N × ℕ) → Type 0
AreSteps {N} g walk = (s : N × ℕ) → Has walk s → IsStep g s

abbrev pub AreAllSteps : {N : Type 0} → Graph N → List (List (N × ℕ)) → Type 0
AreAllSteps {N} g walks = (walk : List (N × ℕ)) → Has walks walk → AreSteps g walk
