-- What a search of distances promises, in the words of machines.
use Rattle.std.specs.Prelude.{◌≡◌, ℕ, ◌*◌, Bool, List, Option, None, Some, length, slice_get}
use Rattle.fst_semiring.specs.Cost.{Cost, infinite}
use Rattle.fst_semiring.specs.declared.arc_type.ArcType.{ArcType}
use Rattle.fst_semiring.specs.Semiring.{IsCost, Within}
use Rattle.fst_machine.specs.Machine.{Arc}
use Rattle.fst_machine.specs.Graph.{Graph}
use Rattle.fst_machine.specs.Paths.{Transition, IsPath, places}
use Rattle.fst_machine.specs.Cycles.{IsAccessible, IsCoaccessible, IsImprovingCycle}
use Rattle.fst_machine.specs.Distance.{AllArcs, IsDistance, IsFinalDistance, AnyArc}
use Rattle.fst_machine.specs.Steps.{written}
use Rattle.fst_machine.specs.declared.path.Step.{Step}
use Rattle.fst_search.specs.Hops.{IsOpen}
use Rattle.fst_search.specs.declared.direction.Direction.{Direction}
use Rattle.fst_search.specs.declared.direction.Direction.TheVariants.{FromStart, ToFinals}
use Rattle.fst_search.specs.declared.fault.DistanceFault.{DistanceFault}
use Rattle.fst_search.specs.declared.fault.DistanceFault.TheVariants.{ImprovingCycle, Memory}

-- the distance from the start, which is Zero where there is none
abbrev pub IsStartDistance : ArcType → Graph ℕ → Option ℕ → ℕ → Cost → Type 0
IsStartDistance kind g None q d = d ≡ infinite
IsStartDistance kind g (Some start) q d = IsDistance kind g AnyArc start q d

-- the distance of a state in a direction
abbrev pub IsDistanceTo : Direction → ArcType → Graph ℕ → ℕ → Cost → Type 0
IsDistanceTo FromStart kind g q d = IsStartDistance kind g g.start q d
IsDistanceTo ToFinals kind g q d = IsFinalDistance kind g q d

-- the states that count in a direction: those that have a distance that is not Zero
abbrev pub Counts : Direction → Graph ℕ → ℕ → Type 0
Counts FromStart g p = IsAccessible g p
Counts ToFinals g p = IsCoaccessible g p

-- These steps are an improving cycle of the graph, on a state that counts.
pub record IsListed (kind : ArcType) (g : Graph ℕ) (Counting : ℕ → Type 0) (steps : List Step) : Type 0 where
  pub state : ℕ
  pub cycle : List (Transition ℕ)
  pub counts : Counting state
  pub improves : IsImprovingCycle g kind state cycle
  pub same : written steps ≡ places cycle

-- no state that counts has an improving cycle
abbrev pub NoneImproves : ArcType → Graph ℕ → (ℕ → Type 0) → Type 0
NoneImproves kind g Counting = (p : ℕ) (cycle : List (Transition ℕ)) → Counting p → IsImprovingCycle g kind p cycle → ⊥

-- what is asked of the cycle that a fault lists
abbrev pub IfImproving : DistanceFault → (List Step → Type 0) → Type 0
IfImproving (ImprovingCycle cycle) P = P cycle
IfImproving Memory P = Unit {0}

-- The distances of n states of a graph, whose numbers are within n times a bound, where no cycle on a state that counts
-- is better than One.
pub record IsMeasured (kind : ArcType) (g : Graph ℕ) (Distance : ℕ → Cost → Type 0) (Counting : ℕ → Type 0) (n bound : ℕ)
    (values : List Cost) : Type 0 where
  pub size : length values ≡ n
  pub distances : (q : ℕ) (d : Cost) → slice_get values q ≡ Some d → Distance q d
  pub numbers : (q : ℕ) (d : Cost) → slice_get values q ≡ Some d → Within (n * bound) d
  pub kinds : (q : ℕ) (d : Cost) → slice_get values q ≡ Some d → IsCost kind d
  pub none : NoneImproves kind g Counting

-- the distance to the final states of a state that the start reaches; Zero for all others
pub record IsUsefulDistance (kind : ArcType) (g : Graph ℕ) (q : ℕ) (d : Cost) : Type 0 where
  pub accessible : IsAccessible g q → IsFinalDistance kind g q d
  pub apart : (IsAccessible g q → ⊥) → d ≡ infinite

-- the distance to the final states of a state that counts; Zero for all others
abbrev pub IsMarkedDistance : List Bool → ArcType → Graph ℕ → ℕ → Cost → Type 0
IsMarkedDistance marks kind g q d = (IsOpen marks q → IsFinalDistance kind g q d) × ((IsOpen marks q → ⊥) → d ≡ infinite)

-- a state that counts, and reaches a final state
abbrev pub MarkedCounts : List Bool → Graph ℕ → ℕ → Type 0
MarkedCounts marks g q = IsOpen marks q × IsCoaccessible g q

-- an arc that leads to a state that counts
abbrev pub LeadsOpen : List Bool → Arc Cost ℕ → Type 0
LeadsOpen marks a = IsOpen marks a.next

-- the distance from the start over arcs to states that count, which is Zero where there is no start
abbrev pub IsOpenDistance : List Bool → ArcType → Graph ℕ → Option ℕ → ℕ → Cost → Type 0
IsOpenDistance marks kind g None q d = d ≡ infinite
IsOpenDistance marks kind g (Some start) q d = IsDistance kind g (LeadsOpen marks) start q d

-- The start reaches the state over arcs to states that count.
pub record IsOpenReached (marks : List Bool) (g : Graph ℕ) (q : ℕ) : Type 0 where
  pub first : ℕ
  pub path : List (Transition ℕ)
  pub starts : g.start ≡ Some first
  pub leads : IsPath g first path q
  pub class : AllArcs (LeadsOpen marks) path

-- no cycle of arcs to states that count, on a state that the start reaches over such arcs, is better than One
abbrev pub NoneImprovesOpen : List Bool → ArcType → Graph ℕ → Type 0
NoneImprovesOpen marks kind g = (p : ℕ) (cycle : List (Transition ℕ)) → IsOpenReached marks g p → AllArcs (LeadsOpen marks) cycle → IsImprovingCycle g kind p cycle → ⊥

-- The distances of n states from the start over arcs to states that count, whose numbers are within n times a bound,
-- where no cycle of such arcs is better than One.
pub record IsOpenMeasured (marks : List Bool) (kind : ArcType) (g : Graph ℕ) (n bound : ℕ) (values : List Cost) : Type 0 where
  pub size : length values ≡ n
  pub distances : (q : ℕ) (d : Cost) → slice_get values q ≡ Some d → IsOpenDistance marks kind g g.start q d
  pub numbers : (q : ℕ) (d : Cost) → slice_get values q ≡ Some d → Within (n * bound) d
  pub kinds : (q : ℕ) (d : Cost) → slice_get values q ≡ Some d → IsCost kind d
  pub none : NoneImprovesOpen marks kind g
