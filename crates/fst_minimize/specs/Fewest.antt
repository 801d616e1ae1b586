-- Acceptors with the fewest states. (Mohri 2009, section 3.4: a minimal deterministic acceptor is one such that no
-- deterministic acceptor that gives each word the same weight has fewer states.)
use Rattle.std.specs.Prelude.{ℕ, ◌≤◌, length}
use Rattle.fst_semiring.specs.Cost.{Cost}
use Rattle.fst_semiring.specs.declared.arc_type.ArcType.{ArcType}
use Rattle.fst_machine.specs.Machine.{Machine}
use Rattle.fst_machine.specs.Graph.{graph_of}
use Rattle.fst_trim.specs.Weighed.{IsWeighted}
use Rattle.fst_trim.specs.WordWeights.{IsSingle, SameWords}

-- no deterministic machine with weights of the arc type that gives each word the same weight has fewer states
abbrev pub IsMinimal : ArcType → Machine Cost → Type 0
IsMinimal kind m = (other : Machine Cost) → IsSingle (graph_of other) → IsWeighted kind (graph_of other) → SameWords kind (graph_of m) (graph_of other)
    → length m.states ≤ length other.states
