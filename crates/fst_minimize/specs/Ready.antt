-- Pushed machines that are ready to be minimized.
use Rattle.std.specs.Prelude.{◌≡◌, ℕ, slice_get, Some}
use Rattle.fst_semiring.specs.Cost.{Cost}
use Rattle.fst_machine.specs.Machine.{Arc, Machine}
use Rattle.fst_machine.specs.Graph.{graph_of}
use Rattle.fst_minimize.specs.Behaviour.{GoesOn}
use Rattle.fst_minimize.specs.Described.{OncePlacedAll}
use Rattle.fst_minimize.specs.Laws.{IsClosed}

-- Arcs lead to states that go on to final ones, no label of a state stands twice, and both labels of an arc are the same.
pub record IsReady (m : Machine Cost) : Type 0 where
  pub closed : IsClosed m
  pub goes : GoesOn (graph_of m)
  pub once : OncePlacedAll (graph_of m)
  pub acceptor : (p k : ℕ) (a : Arc Cost ℕ) → slice_get ((graph_of m).arcs p) k ≡ Some a → a.olabel ≡ a.ilabel
