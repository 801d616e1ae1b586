-- A machine made ready to be followed beside another: connected, with the arcs of each state by their labels.
use Rattle.std.specs.Prelude.{◌≡◌, ◌⊎◌}
use Rattle.fst_semiring.specs.Cost.{Cost}
use Rattle.fst_machine.specs.Connected.{IsConnected}
use Rattle.fst_machine.specs.Machine.{Machine}
use Rattle.fst_trim.specs.Sides.{IsSortedOn}
use Rattle.fst_trim.specs.Sorting.{IsArcSorted}
use Rattle.fst_trim.specs.declared.side.Side.TheVariants.{Input}

-- the arcs stand in order, and it is the machine; or they were put in order
abbrev pub IsOrderedAs : Machine Cost → Machine Cost → Type 0
IsOrderedAs m c = (IsSortedOn Input m × (m ≡ c)) ⊎ IsArcSorted Input m c

pub record IsReadied (m c : Machine Cost) : Type 0 where
  pub connected : Machine Cost
  pub connects : IsConnected m connected
  pub ordered : IsOrderedAs connected c
