-- What distances say of good paths.
use Rattle.std.specs.Prelude.{◌≡◌, ◌↔◌, ℕ, Option, None, Some, slice_get}
use Rattle.fst_semiring.specs.Cost.{Cost, infinite}
use Rattle.fst_semiring.specs.declared.arc_type.ArcType.{ArcType}
use Rattle.fst_semiring.specs.Semiring.{times}
use Rattle.fst_machine.specs.Machine.{Arc}
use Rattle.fst_machine.specs.Graph.{Graph}
use Rattle.fst_machine.specs.Paths.{Transition, Leaves}
use Rattle.fst_machine.specs.Cycles.{IsAccessible, IsCoaccessible}
use Rattle.fst_machine.specs.Distance.{AnyArc, IsFinalDistance, IsLeast, Reaches}
use Rattle.fst_search.specs.Hops.{NoWorse}
use Rattle.fst_select.specs.Good.{Ends, IsBound, Meets, Takes}

-- Some path from the start to this name, which reaches a final one, has this product.
pub record Comes {N : Type 0} (kind : ArcType) (g : Graph N) (q : N) (w : Cost) : Type 0 where
  pub first : N
  pub starts : g.start ≡ Some first
  pub reaches : Reaches kind g AnyArc first q w
  pub goes_on : IsCoaccessible g q

-- The distances of a graph on the names that successful paths meet, in both directions.
pub record IsSurveyed {N : Type 0} (kind : ArcType) (g : Graph N) (s d : N → Cost) : Type 0 where
  pub solid : (q : N) (k : ℕ) (a : Arc Cost N) → slice_get (g.arcs q) k ≡ Some a → a.weight ≡ infinite → ⊥
  pub from_start : (q : N) → IsLeast (Comes kind g q) (s q)
  pub to_final : (q : N) → IsAccessible g q → IsFinalDistance kind g q (d q)

-- the best weight of all
abbrev pub best_of_start : {N : Type 0} → (N → Cost) → Option N → Cost
best_of_start d None = infinite
best_of_start d (Some first) = d first

-- a weight that stands, and is no worse than the bound
abbrev pub IsWithinBound : Cost → Cost → Type 0
IsWithinBound bound w = (w ≡ infinite → ⊥) × NoWorse w bound

-- The bound, and which names, arcs and ends lie on good paths, by distances alone.
pub record GoodLaws {N : Type 0} (kind : ArcType) (g : Graph N) (s d : N → Cost) : Type 0 where
  pub bound : (threshold : Cost) → IsBound kind g threshold (times kind (best_of_start d g.start) threshold)
  pub meets : (bound : Cost) (q : N) → Meets kind g bound q ↔ IsWithinBound bound (times kind (s q) (d q))
  pub takes : (bound : Cost) (t : Transition N) → Leaves g t.state t
      → Takes kind g bound t ↔ IsWithinBound bound (times kind (s t.state) (times kind t.arc.weight (d t.arc.next)))
  pub ends : (bound : Cost) (q : N) → Ends kind g bound q ↔ IsWithinBound bound (times kind (s q) (g.final q))
