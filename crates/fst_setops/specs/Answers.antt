-- When a set operation is refused. Memory may run out before a cause is found.
use Rattle.std.specs.Prelude.{◌≡◌, ◌⊎◌, ℕ, Bool, true, false, List, None, Some, Result, IsErrOf}
use Rattle.fst_semiring.specs.Cost.{Cost}
use Rattle.fst_semiring.specs.declared.arc_type.ArcType.{ArcType}
use Rattle.fst_machine.specs.Graph.{graph_of}
use Rattle.fst_machine.specs.Machine.{Arc, Machine}
use Rattle.fst_trim.specs.FirstArcs.{HasTwoLabels, IsFirstArc, Repeats}
use Rattle.fst_trim.specs.FirstArcs as arcs
use Rattle.fst_walk.specs.Answers.{HasManyArcs, ReachesMore}
use Rattle.fst_walk.specs.declared.fault.WalkFault.{WalkFault}
use Rattle.fst_walk.specs.declared.fault.WalkFault.TheVariants as walk
use Rattle.fst_compose.specs.Answers.{IsSorted, Refuses}
use Rattle.fst_compose.specs.declared.fault.ComposeFault.{ComposeFault}
use Rattle.fst_compose.specs.declared.fault.ComposeFault.TheVariants as compositions
use Rattle.fst_setops.specs.Difference.{difference}
use Rattle.fst_setops.specs.Unweighted.{IsFirstWeighted, ReadsEpsilon}
use Rattle.fst_setops.specs.declared.fault.DifferenceFault.{DifferenceFault}
use Rattle.fst_setops.specs.declared.fault.DifferenceFault.TheVariants as differences
use Rattle.fst_setops.specs.declared.fault.IntersectFault.{IntersectFault}
use Rattle.fst_setops.specs.declared.fault.IntersectFault.TheVariants as intersections

-- A fault comes only where it stands against the operation, or memory has run out; and where one does, it comes, or memory
-- has run out.
abbrev pub IsExactly : {F X : Type 0} → (F → Type 0) → F → Result X F → Type 0
IsExactly {F} Refuses memory result = (fault : F)
    → (IsErrOf result fault → Refuses fault ⊎ (fault ≡ memory)) × (Refuses fault → IsErrOf result fault ⊎ IsErrOf result memory)

-- the first arc of the machine with the property, by state and then place
abbrev pub IsFirst : (List (Arc Cost ℕ) → ℕ → Type 0) → Machine Cost → ℕ → ℕ → Type 0
IsFirst P m state place = IsFirstArc P m (Some (record { state = state; place = place }))

-- the first arc with two labels of the first machine; or of the second, where the first has none
abbrev pub IsSplit : Machine Cost → Machine Cost → Bool → ℕ → ℕ → Type 0
IsSplit a b false state place = IsFirst HasTwoLabels a state place
IsSplit a b true state place = arcs.IsAcceptor a × IsFirst HasTwoLabels b state place

-- both are acceptors
abbrev pub AreAcceptors : Machine Cost → Machine Cost → Type 0
AreAcceptors a b = arcs.IsAcceptor a × arcs.IsAcceptor b

-- The fault stands against the intersection of these machines, and no fault before it does: they may not be composed; or
-- they may, and this is the first arc with two labels; or there is none, and the fault stands against their composition.
abbrev pub RefusesIntersection : ArcType → Machine Cost → Machine Cost → ℕ → IntersectFault → Type 0
RefusesIntersection kind a b most intersections.NotSorted = IsSorted a b → ⊥
RefusesIntersection kind a b most (intersections.NotAcceptor second state place) = IsSorted a b × IsSplit a b second state place
RefusesIntersection kind a b most (intersections.StateLimit limit) = AreAcceptors a b × Refuses kind a b most (compositions.StateLimit limit)
RefusesIntersection kind a b most intersections.TooManyArcs = AreAcceptors a b × Refuses kind a b most compositions.TooManyArcs
RefusesIntersection kind a b most (intersections.Overflow place) = AreAcceptors a b × Refuses kind a b most (compositions.Overflow place)
RefusesIntersection kind a b most intersections.Memory = ⊥

-- no arc reads epsilon
abbrev pub IsFree : Machine Cost → Type 0
IsFree m = IsFirstArc ReadsEpsilon m None

-- The second machine may be taken from the first: both are acceptors, and the second is deterministic, without epsilon and
-- without weights.
pub record AreSubtractable (kind : ArcType) (a b : Machine Cost) : Type 0 where
  pub acceptors : AreAcceptors a b
  pub deterministic : arcs.IsDeterministic b
  pub free : IsFree b
  pub unweighted : IsFirstWeighted kind b None

-- The fault stands against the difference of these machines, and no fault before it does: this is the first arc with two
-- labels; or there is none, and this is the first arc of the second machine with the label of an earlier one; or there is
-- none, and this is its first arc that reads epsilon; or there is none, and this is its first state with weights; or there
-- is none, and more names than the limit can be reached; or no more can, and they have too many arcs.
abbrev pub RefusesDifference : ArcType → Machine Cost → Machine Cost → ℕ → DifferenceFault → Type 0
RefusesDifference kind a b most (differences.NotAcceptor second state place) = IsSplit a b second state place
RefusesDifference kind a b most (differences.NotDeterministic state place) = AreAcceptors a b × IsFirst Repeats b state place
RefusesDifference kind a b most (differences.HasEpsilon state place) = AreAcceptors a b × arcs.IsDeterministic b × IsFirst ReadsEpsilon b state place
RefusesDifference kind a b most (differences.NotUnweighted state) = AreAcceptors a b × arcs.IsDeterministic b × IsFree b × IsFirstWeighted kind b (Some state)
RefusesDifference kind a b most (differences.StateLimit limit) = AreSubtractable kind a b × (limit ≡ most) × ReachesMore (difference (graph_of a) (graph_of b)) most
RefusesDifference kind a b most differences.TooManyArcs = AreSubtractable kind a b × HasManyArcs (difference (graph_of a) (graph_of b)) most
RefusesDifference kind a b most differences.Memory = ⊥

-- what stops the composition stops the intersection
abbrev pub cause_of : ComposeFault → IntersectFault
cause_of compositions.NotSorted = intersections.NotSorted
cause_of (compositions.StateLimit limit) = intersections.StateLimit limit
cause_of compositions.TooManyArcs = intersections.TooManyArcs
cause_of (compositions.Overflow place) = intersections.Overflow place
cause_of compositions.Memory = intersections.Memory

-- what stops the walk stops the difference; no weight is out of range
abbrev pub IsCause : WalkFault → DifferenceFault → Type 0
IsCause (walk.StateLimit limit) fault = fault ≡ differences.StateLimit limit
IsCause walk.TooManyArcs fault = fault ≡ differences.TooManyArcs
IsCause (walk.Overflow place) fault = ⊥
