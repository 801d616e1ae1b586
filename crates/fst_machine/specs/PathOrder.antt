-- The order of successful paths, and the first of them. (Mohri 2009, section 3.3, n shortest paths; that
-- fewer arcs go first, and then the lesser places, is this project's own rule for equal weights.)
use Rattle.std.specs.Prelude.{◌≡◌, ◌⊎◌, ℕ, ◌≤◌, List, [], ◌∷◌, length, map}
use Rattle.std.specs.declared.cmp.Ordering.{Ordering}
use Rattle.std.specs.declared.cmp.Ordering.TheVariants.{Less}
use Rattle.std.specs.Ordering.{nat_cmp, ordering_then}
use Rattle.std.specs.Cmp.Lexicographic.{slice_cmp}
use Rattle.fst_semiring.specs.Cost.{Cost, cost_cmp}
use Rattle.fst_semiring.specs.declared.arc_type.ArcType.{ArcType}
use Rattle.fst_machine.specs.Graph.{Graph}
use Rattle.fst_machine.specs.Paths.{Transition}
use Rattle.fst_machine.specs.Relation.{IsSuccessful}
use Rattle.fst_machine.specs.BreadthFirst.{Has}

-- A path with a weight.
pub record WeightedPath (N : Type 0) : Type 0 where
  pub path : List (Transition N)
  pub weight : Cost

-- the places of the arcs of a path
abbrev pub arc_places : {N : Type 0} → List (Transition N) → List ℕ
arc_places path = map (λ t. t.place) path

-- by weight, the better first, then by number of arcs, the fewer first, then by the places of the arcs
abbrev pub path_cmp : {N : Type 0} → WeightedPath N → WeightedPath N → Ordering
path_cmp a b = ordering_then (cost_cmp a.weight b.weight) (ordering_then (nat_cmp (length a.path) (length b.path)) (slice_cmp nat_cmp
    (arc_places a.path) (arc_places b.path)))

-- each path of the list comes before all that stand behind it
abbrev pub Ascends : {N : Type 0} → List (WeightedPath N) → Type 0
Ascends [] = Unit {0}
Ascends (a ∷ paths) = ((b : WeightedPath _) → Has paths b → path_cmp a b ≡ Less) × Ascends paths

-- The first n successful paths: at most n of them, in strictly ascending order, so that each other one comes
-- after all of these, and there is no other where these are fewer than n.
pub record IsFirst {N : Type 0} (kind : ArcType) (g : Graph N) (n : ℕ) (paths : List (WeightedPath N)) : Type 0 where
  pub few : length paths ≤ n
  pub ascends : Ascends paths
  pub successful : (a : WeightedPath N) → Has paths a → IsSuccessful kind g a.path a.weight
  pub others : (b : WeightedPath N) → IsSuccessful kind g b.path b.weight
      → Has paths b ⊎ ((length paths ≡ n) × ((a : WeightedPath N) → Has paths a → path_cmp a b ≡ Less))
