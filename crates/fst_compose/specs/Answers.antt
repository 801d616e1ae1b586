-- When a composition is refused. Memory may run out before a cause is found.
use Rattle.std.specs.Prelude.{◌≡◌, ◌⊎◌, ◌↔◌, ℕ, Result, IsErrOf}
use Rattle.fst_semiring.specs.Cost.{Cost}
use Rattle.fst_semiring.specs.declared.arc_type.ArcType.{ArcType}
use Rattle.fst_machine.specs.Graph.{graph_of}
use Rattle.fst_machine.specs.Machine.{Machine}
use Rattle.fst_trim.specs.declared.side.Side.TheVariants.{Input, Output}
use Rattle.fst_trim.specs.Sides.{IsSortedOn}
use Rattle.fst_walk.specs.Answers.{HasManyArcs, IsOut, ReachesMore}
use Rattle.fst_walk.specs.declared.fault.WalkFault.{WalkFault}
use Rattle.fst_walk.specs.declared.fault.WalkFault.TheVariants as walk
use Rattle.fst_compose.specs.Composition.{composed}
use Rattle.fst_compose.specs.declared.fault.ComposeFault.{ComposeFault}
use Rattle.fst_compose.specs.declared.fault.ComposeFault.TheVariants.{NotSorted, StateLimit, TooManyArcs, Overflow, Memory}

-- the arcs of the first machine stand by their output labels, or those of the second by their input labels
abbrev pub IsSorted : {V : Type 0} → Machine V → Machine V → Type 0
IsSorted a b = IsSortedOn Output a ⊎ IsSortedOn Input b

-- The fault stands against the composition of these machines, and no fault before it does: the machines may not be
-- composed; or they may, and more names than the limit can be reached; or no more can, and they have too many arcs; or
-- they have not, and this is the first with a weight that is out of range.
abbrev pub Refuses : ArcType → Machine Cost → Machine Cost → ℕ → ComposeFault → Type 0
Refuses kind a b most NotSorted = IsSorted a b → ⊥
Refuses kind a b most (StateLimit limit) = IsSorted a b × (limit ≡ most) × ReachesMore (composed kind (graph_of a) (graph_of b)) most
Refuses kind a b most TooManyArcs = IsSorted a b × HasManyArcs (composed kind (graph_of a) (graph_of b)) most
Refuses kind a b most (Overflow place) = IsSorted a b × IsOut (composed kind (graph_of a) (graph_of b)) most place
Refuses kind a b most Memory = ⊥

-- Apart from memory: a fault comes exactly where it stands against the composition.
abbrev pub IsExact : ArcType → Machine Cost → Machine Cost → ℕ → {X : Type 0} → Result X ComposeFault → Type 0
IsExact kind a b most result = (fault : ComposeFault) → IsErrOf result fault ↔ Refuses kind a b most fault

-- A fault comes only where it stands against the composition, or memory has run out; and where one does, it comes, or
-- memory has run out.
abbrev pub IsExactly : ArcType → Machine Cost → Machine Cost → ℕ → {X : Type 0} → Result X ComposeFault → Type 0
IsExactly kind a b most result =
    (fault : ComposeFault) →
    (IsErrOf result fault → Refuses kind a b most fault ⊎ (fault ≡ Memory)) × (Refuses kind a b most fault → IsErrOf result fault ⊎ IsErrOf result Memory)

-- what stops the walk stops the composition
abbrev pub cause_of : WalkFault → ComposeFault
cause_of (walk.StateLimit limit) = StateLimit limit
cause_of walk.TooManyArcs = TooManyArcs
cause_of (walk.Overflow place) = Overflow place
