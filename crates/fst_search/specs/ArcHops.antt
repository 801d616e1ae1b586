-- Hops along the arcs of a graph, and back along them.
use Rattle.std.specs.Prelude.{◌≡◌, ℕ, Some, slice_get}
use Rattle.fst_semiring.specs.Cost.{Cost}
use Rattle.fst_machine.specs.Machine.{Arc}
use Rattle.fst_machine.specs.Graph.{Graph}
use Rattle.fst_search.specs.Hops.{Hop}

-- The hop goes along an arc of the graph of this class.
pub record Along (g : Graph ℕ) (Class : Arc Cost ℕ → Type 0) (h : Hop) : Type 0 where
  pub arc : Arc Cost ℕ
  pub there : slice_get (g.arcs h.from) h.place ≡ Some arc
  pub class : Class arc
  pub next : arc.next ≡ h.to
  pub weight : arc.weight ≡ h.weight

-- The hop goes back along an arc of the graph.
pub record Back (g : Graph ℕ) (h : Hop) : Type 0 where
  pub arc : Arc Cost ℕ
  pub there : slice_get (g.arcs h.to) h.place ≡ Some arc
  pub next : arc.next ≡ h.from
  pub weight : arc.weight ≡ h.weight
