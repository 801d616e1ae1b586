-- Acceptors that are followed side by side.
use Rattle.std.specs.Prelude.{ℕ}
use Rattle.fst_semiring.specs.Cost.{Cost}
use Rattle.fst_semiring.specs.declared.arc_type.ArcType.{ArcType}
use Rattle.fst_machine.specs.Graph.{graph_of}
use Rattle.fst_machine.specs.Machine.{Machine, valued}
use Rattle.fst_trim.specs.Weighed.{IsWeighed}
use Rattle.fst_setops.specs.Ways.{AscendsStrictly}

-- The weights are of the arc type and in range, and the labels of each state ascend.
pub record IsPrepared {V : Type 0} (kind : ArcType) (value : V → Cost) (m : Machine V) : Type 0 where
  pub weighed : IsWeighed kind value m
  pub ascends : (p : ℕ) → AscendsStrictly ((graph_of (valued value m)).arcs p)
