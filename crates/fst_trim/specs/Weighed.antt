-- What is known of a machine once its weights were looked at: they are of its arc type, and in range.
use Rattle.std.specs.Prelude.{◌≡◌, ◌≢◌, ℕ, Some, slice_get}
use Rattle.fst_semiring.specs.Cost.{Cost, infinite}
use Rattle.fst_semiring.specs.Semiring.{InRange, IsCost}
use Rattle.fst_semiring.specs.declared.arc_type.ArcType.{ArcType}
use Rattle.fst_machine.specs.Graph.{Graph, graph_of}
use Rattle.fst_machine.specs.Machine.{Arc, IsMachine, Machine, valued}

-- the weights of a graph are of the arc type, and no arc weighs Zero
pub record IsWeighted {N : Type 0} (kind : ArcType) (g : Graph N) : Type 0 where
  pub arcs : (p : N) (k : ℕ) (a : Arc Cost N) → slice_get (g.arcs p) k ≡ Some a → IsCost kind a.weight × (a.weight ≢ infinite)
  pub final : (p : N) → IsCost kind (g.final p)

-- the weights of the graph's arcs are in range
abbrev pub IsRanged : Graph ℕ → Type 0
IsRanged g = (p k : ℕ) (a : Arc Cost ℕ) → slice_get (g.arcs p) k ≡ Some a → InRange a.weight

-- The weights of one state are of the arc type, and those of its arcs are in range.
pub record IsWeighedAt (kind : ArcType) (g : Graph ℕ) (p : ℕ) : Type 0 where
  pub arcs : (k : ℕ) (a : Arc Cost ℕ) → slice_get (g.arcs p) k ≡ Some a → IsCost kind a.weight × InRange a.weight
  pub final : IsCost kind (g.final p)

-- A machine with the limits of each, whose weights are of the arc type and in range.
pub record IsWeighed {V : Type 0} (kind : ArcType) (value : V → Cost) (m : Machine V) : Type 0 where
  pub machine : IsMachine value m
  pub weighted : IsWeighted kind (graph_of (valued value m))
  pub ranged : IsRanged (graph_of (valued value m))
