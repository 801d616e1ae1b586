-- Machines without weights and machines without epsilon, and what keeps a machine from being one. (OpenFst manual,
-- "Properties": unweighted, no input epsilons.)
use Rattle.std.specs.Prelude.{◌≡◌, ◌⊎◌, ℕ, List, Option, Some, All, slice_get}
use Rattle.fst_semiring.specs.Cost.{Cost, infinite}
use Rattle.fst_semiring.specs.Semiring.{one_of}
use Rattle.fst_semiring.specs.declared.arc_type.ArcType.{ArcType}
use Rattle.fst_machine.specs.Machine.{Arc, Machine, State}
use Rattle.fst_trim.specs.FirstArcs.{IsFirstPlace}

-- the arc in this place reads epsilon
pub record ReadsEpsilon {V : Type 0} (arcs : List (Arc V ℕ)) (place : ℕ) : Type 0 where
  pub arc : Arc V ℕ
  pub there : slice_get arcs place ≡ Some arc
  pub epsilon : arc.ilabel ≡ 0

-- Each arc of the state has weight One, and its final weight is One or Zero.
pub record IsUnweighted (kind : ArcType) (s : State Cost) : Type 0 where
  pub arcs : All (λ a. a.weight ≡ one_of kind) s.arcs
  pub final : (s.final ≡ one_of kind) ⊎ (s.final ≡ infinite)

-- the state in this place has some other weight
pub record HasWeights (kind : ArcType) (states : List (State Cost)) (place : ℕ) : Type 0 where
  pub state : State Cost
  pub there : slice_get states place ≡ Some state
  pub weighted : IsUnweighted kind state → ⊥

-- the least state that has some other weight, or none where there is none
abbrev pub IsFirstWeighted : ArcType → Machine Cost → Option ℕ → Type 0
IsFirstWeighted kind m = IsFirstPlace (HasWeights kind) m.states
