-- What a listing of strings says of its machine: why there is none, each cause where it is the first that holds, and what holds
-- where there is one.
use Rattle.std.specs.Prelude.{Result, Ok, Err}
use Rattle.fst_semiring.specs.Cost.{Cost}
use Rattle.fst_semiring.specs.declared.arc_type.ArcType.{ArcType}
use Rattle.fst_machine.specs.Cycles.{IsUseful}
use Rattle.fst_machine.specs.Graph.{graph_of}
use Rattle.fst_machine.specs.Machine.{Machine}
use Rattle.fst_search.specs.Distances.{IsListed, NoneImproves}
use Rattle.fst_trim.specs.FirstArcs.{HasTwoLabels, IsAcceptor}
use Rattle.fst_setops.specs.Answers.{IsFirst, IsFree}
use Rattle.fst_setops.specs.Unweighted.{ReadsEpsilon}
use Rattle.fst_select.specs.declared.unique_fault.UniqueFault.{UniqueFault}
use Rattle.fst_select.specs.declared.unique_fault.UniqueFault.TheVariants.{NotAcceptor, HasEpsilon, ImprovingCycle, Memory}

module _ (kind : ArcType) (m : Machine Cost) where
  -- The fault stands against a listing, and no fault before it does: this is the first arc with two labels; or there is none,
  -- and this is the first arc with label 0; or there is none, and these steps are a cycle on useful states that is better than
  -- One. Memory says nothing.
  abbrev pub IsUnlistable : UniqueFault → Type 0
  IsUnlistable (NotAcceptor state place) = IsFirst HasTwoLabels m state place
  IsUnlistable (HasEpsilon state place) = IsAcceptor m × IsFirst ReadsEpsilon m state place
  IsUnlistable (ImprovingCycle cycle) = IsAcceptor m × IsFree m × IsListed kind (graph_of m) (IsUseful (graph_of m)) cycle
  IsUnlistable Memory = Unit {0}

  -- none of these stands against it
  abbrev pub IsListable : Type 0
  IsListable = IsAcceptor m × IsFree m × NoneImproves kind (graph_of m) (IsUseful (graph_of m))

  -- a fault stands against the listing, or there is a list, and none does
  abbrev pub IsSettled : {X : Type 0} → Result X UniqueFault → Type 0
  IsSettled (Ok strings) = IsListable
  IsSettled (Err fault) = IsUnlistable fault
