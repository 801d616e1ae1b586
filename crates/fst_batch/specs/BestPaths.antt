-- What is told of the best paths of a graph, and what may stand against them.
use Rattle.std.specs.Prelude.{◌≡◌, ℕ, List, [], ◌∷◌, Bool, Option, None, Some, ◌&&◌, if◌then◌else◌, map, nat_eq, nat_le, not}
use Rattle.std.specs.List.{flat_map}
use Rattle.fst_semiring.specs.Cost.{Cost}
use Rattle.fst_semiring.specs.declared.arc_type.ArcType.{ArcType}
use Rattle.fst_semiring.specs.Semiring.{InRange}
use Rattle.fst_machine.specs.BreadthFirst.{Has}
use Rattle.fst_machine.specs.Cycles.{IsImprovingCycle, IsUseful}
use Rattle.fst_machine.specs.Graph.{Graph}
use Rattle.fst_machine.specs.Letters.{output}
use Rattle.fst_machine.specs.Paths.{Transition, letters}
use Rattle.fst_machine.specs.PathOrder.{IsFirst, WeightedPath}

-- What is told of a path: its weight and its text.
pub record Told (V : Type 0) : Type 0 where
  pub weight : V
  pub text : List ℕ

-- the same with the weight as its value
abbrev pub valued_told : {V : Type 0} → (V → Cost) → Told V → Told Cost
valued_told value t = record { weight = value t.weight; text = t.text }

-- A label is text where it is the number of a byte that does not end a line, and is not epsilon.
abbrev pub is_text : ℕ → Bool
is_text label = nat_le 1 label && nat_le label 255 && not (nat_eq label 10)

-- the first of the labels that is not text, if there is one
abbrev pub first_not_text : List ℕ → Option ℕ
first_not_text [] = None
first_not_text (label ∷ labels) = if is_text label then first_not_text labels else Some label

module _ {N : Type 0} where
  -- what is told of a path: its text is its output string
  abbrev pub told_of : WeightedPath N → Told Cost
  told_of a = record { weight = a.weight; text = output (letters a.path) }

  -- the output labels of paths without epsilon, path by path
  abbrev pub labels_of : List (WeightedPath N) → List ℕ
  labels_of paths = flat_map (λ a. output (letters a.path)) paths

-- some useful name has an improving cycle
pub record Improves {N : Type 0} (kind : ArcType) (g : Graph N) : Type 0 where
  pub name : N
  pub cycle : List (Transition N)
  pub useful : IsUseful g name
  pub improves : IsImprovingCycle g kind name cycle

-- one of the first n paths has a weight out of range
pub record HasGreatWeight {N : Type 0} (kind : ArcType) (g : Graph N) (n : ℕ) : Type 0 where
  pub paths : List (WeightedPath N)
  pub first : IsFirst kind g n paths
  pub path : WeightedPath N
  pub has : Has paths path
  pub great : InRange path.weight → ⊥

-- this is the first output label of the first n paths that is not text
pub record IsNotText {N : Type 0} (kind : ArcType) (g : Graph N) (n label : ℕ) : Type 0 where
  pub paths : List (WeightedPath N)
  pub first : IsFirst kind g n paths
  pub not_text : first_not_text (labels_of paths) ≡ Some label

-- this is told of the first n paths, in their order
pub record IsListed {N : Type 0} (kind : ArcType) (g : Graph N) (n : ℕ) (answers : List (Told Cost)) : Type 0 where
  pub paths : List (WeightedPath N)
  pub first : IsFirst kind g n paths
  pub told : answers ≡ map told_of paths
