-- Which names a walk of a graph takes before it has found too many, and which names of a graph a line needs.
use Rattle.std.specs.Prelude.{◌≡◌, ◌≤◌, ℕ, List, Some, length, slice_get}
use Rattle.fst_machine.specs.Graph.{Graph}
use Rattle.fst_machine.specs.Walking.{IsWalking}
use Rattle.fst_lattice.specs.Lattice.{HasNoZero, Point, lattice}

-- The breadth-first walk takes the name: when its turn comes, the start and all names to which the names before it lead are
-- no more than the limit.
pub record IsTaken {N : Type 0} (g : Graph N) (limit : ℕ) (name : N) : Type 0 where
  pub start : N
  pub starts : g.start ≡ Some start
  pub found : List N
  pub place : ℕ
  pub walking : IsWalking g start found place
  pub few : length found ≤ limit
  pub there : slice_get found place ≡ Some name

-- A line needs a name of the graph where the walk of its lattice takes a name with it. A line with a byte 0 needs none.
pub record IsNeeded {N : Type 0} (line : List ℕ) (g : Graph N) (limit : ℕ) (name : N) : Type 0 where
  pub no_zero : HasNoZero line
  pub at : Point N
  pub taken : IsTaken (lattice line g) limit at
  pub same : at.name ≡ name
