-- What minimization makes, and why it may not make it.
use Rattle.std.specs.Prelude.{◌≡◌, ℕ, Some}
use Rattle.fst_semiring.specs.Cost.{Cost}
use Rattle.fst_semiring.specs.declared.arc_type.ArcType.{ArcType}
use Rattle.fst_machine.specs.Machine.{Machine}
use Rattle.fst_machine.specs.Graph.{graph_of}
use Rattle.fst_machine.specs.Cycles.{IsUseful}
use Rattle.fst_machine.specs.Narrowing.{IsFirstPast}
use Rattle.fst_trim.specs.FirstArcs.{HasTwoLabels, Repeats, IsFirstArc, IsAcceptor, IsDeterministic}
use Rattle.fst_search.specs.Distances.{IsListed, NoneImproves}
use Rattle.fst_distance.specs.Pushing.{IsPushed}
use Rattle.fst_minimize.specs.Classes.{HasClasses}
use Rattle.fst_minimize.specs.Laws.{totalled}
use Rattle.fst_minimize.specs.declared.fault.MinimizeFault.{MinimizeFault}
use Rattle.fst_minimize.specs.declared.fault.MinimizeFault.TheVariants.{NotAcceptor, NotDeterministic, ImprovingCycle, Overflow, Memory}

-- r is m pushed, its states of equal behaviour made one, with the total on each final weight.
pub record IsMinimized (kind : ArcType) (m r : Machine Cost) : Type 0 where
  pub pushed : Machine Cost
  pub classes : Machine Cost
  pub total : Cost
  pub pushes : IsPushed kind m pushed total
  pub has : HasClasses pushed classes
  pub same : r ≡ totalled kind total classes

-- The state with this number is the first of the minimized machine with a number past the range.
pub record IsPast (kind : ArcType) (m : Machine Cost) (state : ℕ) : Type 0 where
  pub machine : Machine Cost
  pub minimized : IsMinimized kind m machine
  pub first : IsFirstPast machine state

-- what a fault says of the machine, by its weights and by their values
abbrev pub IsMinimizeFault : {V : Type 0} → ArcType → Machine V → Machine Cost → MinimizeFault → Type 0
IsMinimizeFault kind m values (NotAcceptor state place) = IsFirstArc HasTwoLabels m (Some (record { state = state; place = place }))
IsMinimizeFault kind m values (NotDeterministic state place) = IsAcceptor m × IsFirstArc Repeats m (Some (record { state = state; place = place }))
IsMinimizeFault kind m values (ImprovingCycle cycle) = IsAcceptor m × IsDeterministic m × IsListed kind (graph_of values) (IsUseful (graph_of values)) cycle
IsMinimizeFault kind m values (Overflow state) = IsAcceptor m × IsDeterministic m
    × NoneImproves kind (graph_of values) (IsUseful (graph_of values)) × IsPast kind values state
IsMinimizeFault kind m values Memory = Unit {0}
