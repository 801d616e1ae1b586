-- What distances keep along arcs. (Mohri 2009, section 3.3: relaxation. Distances to the final states are a potential,
-- by which weights can be pushed.)
use Rattle.std.specs.Prelude.{◌≡◌, ℕ, Some, slice_get}
use Rattle.fst_semiring.specs.Cost.{Cost}
use Rattle.fst_semiring.specs.declared.arc_type.ArcType.{ArcType}
use Rattle.fst_semiring.specs.Semiring.{times}
use Rattle.fst_machine.specs.Machine.{Arc}
use Rattle.fst_machine.specs.Graph.{Graph}
use Rattle.fst_machine.specs.Distance.{IsFinalDistance}
use Rattle.fst_search.specs.Hops.{NoWorse}

-- The distance of a name to the final ones is no worse than its final weight, and than an arc with the distance of its end.
pub record DistanceLaws {N : Type 0} (kind : ArcType) (g : Graph N) : Type 0 where
  pub final : (p : N) (d : Cost) → IsFinalDistance kind g p d → NoWorse d (g.final p)
  pub arc : (p : N) (k : ℕ) (a : Arc Cost N) (d e : Cost) → slice_get (g.arcs p) k ≡ Some a → IsFinalDistance kind g p d
      → IsFinalDistance kind g a.next e → NoWorse d (times kind a.weight e)
