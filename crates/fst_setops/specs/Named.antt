-- The machine of the names of a graph that its start reaches, and which names these are.
use Rattle.std.specs.Prelude.{List}
use Rattle.fst_semiring.specs.Cost.{Cost}
use Rattle.fst_machine.specs.Graph.{Graph}
use Rattle.fst_machine.specs.Machine.{Machine}
use Rattle.fst_walk.specs.Answers.{IsNamed}

-- The states of the machine stand for these names, in breadth-first order.
pub record HasNames {N : Type 0} (g : Graph N) (m : Machine Cost) : Type 0 where
  pub names : List N
  pub named : IsNamed g names m
