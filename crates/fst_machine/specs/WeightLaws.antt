-- The laws of weights of pairs, of cycles and of distances.
use Rattle.std.specs.Prelude.{◌≡◌, ◌↔◌, ℕ, ◌<◌, List, ◌∷◌, ◌++◌, length}
use Rattle.std.specs.declared.cmp.Ordering.TheVariants.{Less}
use Rattle.fst_semiring.specs.Cost.{Cost, cost_cmp, plus}
use Rattle.fst_semiring.specs.declared.arc_type.ArcType.{ArcType}
use Rattle.fst_semiring.specs.Semiring.{one_of}
use Rattle.fst_machine.specs.Machine.{Machine}
use Rattle.fst_machine.specs.Graph.{Graph, graph_of}
use Rattle.fst_machine.specs.Letters.{product}
use Rattle.fst_machine.specs.Paths.{Transition, IsPath, letters}
use Rattle.fst_machine.specs.Relation.{Rel, IsWeight}
use Rattle.fst_machine.specs.Cycles.{HasCycle, HasNoImprovingCycle}
use Rattle.fst_machine.specs.Distance.{IsDistance, IsFinalDistance, AnyArc}
use Rattle.fst_machine.specs.Within.{RelWithin, ArrivesWithin, ReachesWithin, weight_within, target_within, only_at}
use Rattle.fst_machine.specs.Distance.{IsLeast}

-- A cycle of a path can be left out or gone round once more; where it is not better than One, the path
-- without it is no worse.
pub record CycleLaws {N : Type 0} (kind : ArcType) (g : Graph N) (p q : N) (path : List (Transition N)) (c : HasCycle g p path q) : Type 0 where
  pub left_out : IsPath g p (c.front ++ c.back) q
  pub repeated : IsPath g p (c.front ++ ((c.first ∷ c.round) ++ ((c.first ∷ c.round) ++ c.back))) q
  pub no_worse : (cost_cmp (product kind (letters (c.first ∷ c.round))) (one_of kind) ≡ Less → ⊥)
      → plus (product kind (letters (c.front ++ c.back))) (product kind (letters path)) ≡ product kind (letters (c.front ++ c.back))

-- A path with more arcs than the machine has states has a cycle, and where no useful state has an improving
-- cycle each related pair has a weight.
pub record MachineWeightLaws (kind : ArcType) (m : Machine Cost) : Type 0 where
  pub has_cycle : (p q : ℕ) (path : List (Transition ℕ)) → IsPath (graph_of m) p path q → length m.states < length path → HasCycle (graph_of m) p path q
  pub distance : (k p q : ℕ) → IsLeast (ReachesWithin kind (graph_of m) k p q) (target_within kind (graph_of m) (only_at kind q) k p)
  pub has_weight : HasNoImprovingCycle (graph_of m) kind → (x y : List ℕ) (w : Cost) → Rel kind (graph_of m) x y w
      → (v : Cost) × IsWeight kind (graph_of m) x y v

-- A pair has at most one weight, graphs that relate the same have the same weights, distances are one, and
-- weights and distances over paths of at most k arcs come from those over fewer.
pub record WeightLaws {N M : Type 0} (kind : ArcType) (g : Graph N) (h : Graph M) : Type 0 where
  pub one_weight : (x y : List ℕ) (v w : Cost) → IsWeight kind g x y v → IsWeight kind g x y w → v ≡ w
  pub same_weight : ((x y : List ℕ) (w : Cost) → Rel kind g x y w ↔ Rel kind h x y w) → (x y : List ℕ) (w : Cost)
      → IsWeight kind g x y w ↔ IsWeight kind h x y w
  pub one_distance : (p q : N) (d e : Cost) → IsDistance kind g AnyArc p q d → IsDistance kind g AnyArc p q e → d ≡ e
  pub one_final_distance : (p : N) (d e : Cost) → IsFinalDistance kind g p d → IsFinalDistance kind g p e → d ≡ e
  pub within : (k : ℕ) (p : N) (x y : List ℕ) → IsLeast (RelWithin kind g k p x y) (weight_within kind g k p x y)
  pub arrives : (target : N → Cost) (k : ℕ) (p : N) → IsLeast (ArrivesWithin kind g target k p) (target_within kind g target k p)
