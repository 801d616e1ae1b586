-- When there is no deterministic machine. Memory may run out before a cause is found.
use Rattle.std.specs.Prelude.{◌≡◌, ◌⊎◌, ◌↔◌, ℕ, Result, IsErrOf}
use Rattle.fst_semiring.specs.Cost.{Cost}
use Rattle.fst_semiring.specs.declared.arc_type.ArcType.{ArcType}
use Rattle.fst_machine.specs.BreadthFirst.{Precedes}
use Rattle.fst_machine.specs.Graph.{graph_of}
use Rattle.fst_machine.specs.Machine.{Machine, valued}
use Rattle.fst_trim.specs.FirstArcs.{HasTwoLabels, Meets}
use Rattle.fst_trim.specs.FirstArcs as arcs
use Rattle.fst_walk.specs.Answers.{HasManyArcs, IsOut}
use Rattle.fst_walk.specs.declared.fault.WalkFault.{WalkFault}
use Rattle.fst_walk.specs.declared.fault.WalkFault.TheVariants as walk
use Rattle.fst_determinize.specs.Theorem.{HasMoreSubsets}
use Rattle.fst_determinize.specs.Ways.{subsets}
use Rattle.fst_determinize.specs.declared.fault.DeterminizeFault.{DeterminizeFault}
use Rattle.fst_determinize.specs.declared.fault.DeterminizeFault.TheVariants.{NotAcceptor, StateLimit, TooManyArcs, Overflow, Memory}

module _ {V : Type 0} (kind : ArcType) (value : V → Cost) (m : Machine V) (most : ℕ) where
  -- The fault stands against the machine, and no fault before it does: this is the first arc with two different labels;
  -- or there is none, and words give more subsets than the limit; or they do not, and these have too many arcs; or they
  -- have not, and this is the first with a weight that is out of range.
  abbrev pub Refuses : DeterminizeFault → Type 0
  Refuses (NotAcceptor state place) = Meets HasTwoLabels m state place
      × ((p k : ℕ) → Precedes p k state place → Meets HasTwoLabels m p k → ⊥)
  Refuses (StateLimit limit) = arcs.IsAcceptor m × (limit ≡ most) × HasMoreSubsets kind (graph_of (valued value m)) most
  Refuses TooManyArcs = arcs.IsAcceptor m × HasManyArcs (subsets kind (graph_of (valued value m))) most
  Refuses (Overflow place) = arcs.IsAcceptor m × IsOut (subsets kind (graph_of (valued value m))) most place
  Refuses Memory = ⊥

  -- Apart from memory: a fault comes exactly where it stands against the machine.
  abbrev pub IsExact : {X : Type 0} → Result X DeterminizeFault → Type 0
  IsExact result = (fault : DeterminizeFault) → IsErrOf result fault ↔ Refuses fault

  -- A fault comes only where it stands against the machine, or memory has run out; and where one does, it comes, or
  -- memory has run out.
  abbrev pub IsExactly : {X : Type 0} → Result X DeterminizeFault → Type 0
  IsExactly result = (fault : DeterminizeFault)
      → (IsErrOf result fault → Refuses fault ⊎ (fault ≡ Memory)) × (Refuses fault → IsErrOf result fault ⊎ IsErrOf result Memory)

-- what stops the walk stops determinization
abbrev pub cause_of : WalkFault → DeterminizeFault
cause_of (walk.StateLimit limit) = StateLimit limit
cause_of walk.TooManyArcs = TooManyArcs
cause_of (walk.Overflow place) = Overflow place
