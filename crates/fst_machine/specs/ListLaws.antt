-- The laws of breadth-first lists and of the order of paths.
use Rattle.std.specs.Prelude.{◌≡◌, ◌⊎◌, ◌↔◌, ℕ, List}
use Rattle.std.specs.declared.cmp.Ordering.TheVariants.{Less}
use Rattle.std.specs.Cmp.{IsTotalOrder}
use Rattle.fst_semiring.specs.declared.arc_type.ArcType.{ArcType}
use Rattle.fst_machine.specs.Graph.{Graph}
use Rattle.fst_machine.specs.Paths.{Transition, IsPath}
use Rattle.fst_machine.specs.Relation.{IsSuccessful}
use Rattle.fst_machine.specs.BreadthFirst.{Has, IsBreadthFirst, IsWalked}
use Rattle.fst_machine.specs.PathOrder.{WeightedPath, path_cmp, IsFirst}

-- The breadth-first list is the list of a walk, there is one, and its names are those at the ends of the paths
-- from the start.
pub record BreadthFirstLaws {N : Type 0} (g : Graph N) (start : N) (names : List N) : Type 0 where
  pub same : IsWalked g start names ↔ IsBreadthFirst g start names
  pub one : (others : List N) → IsBreadthFirst g start names → IsBreadthFirst g start others → names ≡ others
  pub reached : IsWalked g start names → (z : N) → Has names z → (path : List (Transition N)) × IsPath g start path z
  pub all : IsWalked g start names → (path : List (Transition N)) (z : N) → IsPath g start path z → Has names z

-- The order of paths is total, different successful paths do not tie, and the first n are one list.
pub record PathOrderLaws {N : Type 0} (kind : ArcType) (g : Graph N) : Type 0 where
  pub total : IsTotalOrder {K = WeightedPath N} path_cmp
  pub apart : (a b : WeightedPath N) → IsSuccessful kind g a.path a.weight → IsSuccessful kind g b.path b.weight
      → (a ≡ b) ⊎ ((path_cmp a b ≡ Less) ⊎ (path_cmp b a ≡ Less))
  pub first : (n : ℕ) (one two : List (WeightedPath N)) → IsFirst kind g n one → IsFirst kind g n two → one ≡ two
