-- The laws of pushed weights.
use Rattle.std.specs.Prelude.{◌≡◌, ◌≢◌, ◌↔◌, ℕ, ◌<◌, ◌≤◌, List, Some, length, map, slice_get}
use Rattle.std.specs.declared.cmp.Ordering.TheVariants.{Less}
use Rattle.fst_semiring.specs.Cost.{Cost, infinite, cost_cmp, plus}
use Rattle.fst_semiring.specs.declared.arc_type.ArcType.{ArcType}
use Rattle.fst_semiring.specs.Semiring.{one_of, times, IsCost}
use Rattle.fst_machine.specs.Machine.{Arc, Machine}
use Rattle.fst_machine.specs.Graph.{Graph, graph_of}
use Rattle.fst_machine.specs.Letters.{Letter}
use Rattle.fst_machine.specs.Paths.{Transition, letters}
use Rattle.fst_machine.specs.Relation.{IsSuccessful, Rel}
use Rattle.fst_machine.specs.Connected.{IsTrim}
use Rattle.fst_machine.specs.Distance.{IsFinalDistance}
use Rattle.fst_trim.specs.KeptPaths.{IsRenumbered}

-- No way on from a name betters its value, which is not Zero: by its final weight, or by an arc and the value of its end.
pub record IsPotential {N : Type 0} (kind : ArcType) (d : N → Cost) (g : Graph N) (D : N → Type 0) : Type 0 where
  pub of_kind : (p : N) → D p → IsCost kind (d p)
  pub not_zero : (p : N) → D p → d p ≢ infinite
  pub final : (p : N) → D p → plus (d p) (g.final p) ≡ d p
  pub arc : (p : N) (k : ℕ) (a : Arc Cost N) → D p → slice_get (g.arcs p) k ≡ Some a → plus (d p) (times kind a.weight (d a.next)) ≡ d p

-- The values of names by rank: a better one has a lower rank, and a no worse one no higher.
pub record IsRank {N : Type 0} (d : N → Cost) (D : N → Type 0) (rank : N → ℕ) : Type 0 where
  pub better : (p q : N) → D p → D q → cost_cmp (d p) (d q) ≡ Less → rank p < rank q
  pub no_worse : (p q : N) → D p → D q → plus (d p) (d q) ≡ d p → rank p ≤ rank q

-- no arc of the machine weighs Zero
abbrev pub NoArcIsZero : Machine Cost → Type 0
NoArcIsZero m = (p k : ℕ) (a : Arc Cost ℕ) → slice_get ((graph_of m).arcs p) k ≡ Some a → a.weight ≢ infinite

-- From each state of the pushed machine, all of which are useful, the distance to the final states is One, and the total
-- Times what it relates is what the machine relates.
pub record PushedLaws (kind : ArcType) (m r : Machine Cost) (total : Cost) : Type 0 where
  pub one : NoArcIsZero m → (p : ℕ) → p < length r.states → IsFinalDistance kind (graph_of r) p (one_of kind)
  pub trim : NoArcIsZero m → IsTrim r
  pub some : NoArcIsZero m → NoArcIsZero r
  pub relation : NoArcIsZero m → (x y : List ℕ) (w : Cost) → Rel kind (graph_of m) x y w ↔ ((v : Cost) × Rel kind (graph_of r) x y v × (w ≡ times kind total v))

-- the two labels of each arc of a path
abbrev pub labels : List (Transition ℕ) → List (ℕ × ℕ)
labels path = map (λ (l : Letter). (l.ilabel, l.olabel)) (letters path)

-- The second path goes through the states of the first by their new numbers and by their arcs in their new places, has
-- their labels, and the factor Times its weight is that of the first.
pub record IsPushedPath (kind : ArcType) (factor : Cost) (m : Machine Cost) (kept : List ℕ) (path other : List (Transition ℕ)) (w v : Cost) : Type 0 where
  pub renumbered : IsRenumbered m kept path other
  pub same_labels : labels other ≡ labels path
  pub weight : w ≡ times kind factor v

-- The factor Times the weight that a successful path has in r is its weight in m, of which r has the states that are
-- kept: each successful path of the one is tied to one of the other, and to one only.
pub record PushesPaths (kind : ArcType) (factor : Cost) (m r : Machine Cost) : Type 0 where
  pub kept : List ℕ
  pub there : (path : List (Transition ℕ)) (w : Cost) → IsSuccessful kind (graph_of m) path w
      → (other : List (Transition ℕ)) × (v : Cost) × IsSuccessful kind (graph_of r) other v × IsPushedPath kind factor m kept path other w v
  pub back : (other : List (Transition ℕ)) (v : Cost) → IsSuccessful kind (graph_of r) other v
      → (path : List (Transition ℕ)) × (w : Cost) × IsSuccessful kind (graph_of m) path w × IsPushedPath kind factor m kept path other w v
  pub once : (path one other : List (Transition ℕ)) (v w : Cost) → IsSuccessful kind (graph_of r) one v → IsSuccessful kind (graph_of r) other w
      → IsRenumbered m kept path one → IsRenumbered m kept path other → one ≡ other
  pub only : (one other path : List (Transition ℕ)) (u v w : Cost) → IsSuccessful kind (graph_of m) one u → IsSuccessful kind (graph_of m) other v
      → IsSuccessful kind (graph_of r) path w → IsRenumbered m kept one path → IsRenumbered m kept other path → one ≡ other
