-- What a removal of epsilon arcs answers.
use Rattle.std.specs.Prelude.{◌≡◌, ◌⊎◌, ◌<◌, ◌≤◌, ◌↔◌, ℕ, List, [], Some, All, length, slice_get}
use Rattle.fst_semiring.specs.Cost.{Cost}
use Rattle.fst_semiring.specs.declared.arc_type.ArcType.{ArcType}
use Rattle.fst_machine.specs.Cycles.{IsAccessible, IsImprovingCycle}
use Rattle.fst_machine.specs.Distance.{AllArcs, EpsilonArc}
use Rattle.fst_machine.specs.Graph.{Graph, graph_of, no_state}
use Rattle.fst_machine.specs.Machine.{Machine, State, arc_total, most_arcs}
use Rattle.fst_machine.specs.Narrowing.{IsFirstPast, IsInRange}
use Rattle.fst_machine.specs.Paths.{Transition, places}
use Rattle.fst_machine.specs.Relation.{IsWeight}
use Rattle.fst_machine.specs.Steps.{written}
use Rattle.fst_machine.specs.declared.path.Step.{Step}
use Rattle.fst_epsilon.specs.Construction.{IsClosureList, best_final, collected, merged}
use Rattle.fst_epsilon.specs.declared.fault.EpsilonFault.{EpsilonFault}
use Rattle.fst_epsilon.specs.declared.fault.EpsilonFault.TheVariants.{ImprovingCycle, TooManyArcs, Overflow, Memory}

-- A state that the start reaches, with the arcs and the final weight that its closure gives it.
pub record IsGathered (kind : ArcType) (g : Graph ℕ) (q : ℕ) (s : State Cost) : Type 0 where
  pub closure : List (ℕ × Cost)
  pub closes : IsClosureList kind g q closure
  pub arcs : s.arcs ≡ merged [] (collected kind g closure)
  pub final : s.final ≡ best_final kind g closure

-- the state with this number in the result: one that the start does not reach has no arcs, and is not final
abbrev pub IsRemovedState : ArcType → Graph ℕ → ℕ → State Cost → Type 0
IsRemovedState kind g q s = (IsAccessible g q × IsGathered kind g q s) ⊎ ((IsAccessible g q → ⊥) × (s ≡ no_state))

-- the first states of the result
abbrev pub AreRemoved : ArcType → Graph ℕ → List (State Cost) → Type 0
AreRemoved kind g states = (q : ℕ) (s : State Cost) → slice_get states q ≡ Some s → IsRemovedState kind g q s

-- The machine without epsilon arcs: it has the start and the number of states of the given one.
pub record IsRemovedMachine (kind : ArcType) (m h : Machine Cost) : Type 0 where
  pub start : h.start ≡ m.start
  pub size : length h.states ≡ length m.states
  pub states : AreRemoved kind (graph_of m) h.states

-- no arc of these states has both labels 0
abbrev pub HasNoEpsilons : List (State Cost) → Type 0
HasNoEpsilons states = All (λ s. All (λ a. EpsilonArc a → ⊥) s.arcs) states

-- no cycle of epsilon arcs on a state that the start reaches is better than One
abbrev pub NoSilentCycle : ArcType → Graph ℕ → Type 0
NoSilentCycle kind g = (p : ℕ) (cycle : List (Transition ℕ)) → IsAccessible g p → AllArcs EpsilonArc cycle → IsImprovingCycle g kind p cycle → ⊥

-- These steps are such a cycle.
pub record IsImprovingSilently (kind : ArcType) (g : Graph ℕ) (steps : List Step) : Type 0 where
  pub state : ℕ
  pub cycle : List (Transition ℕ)
  pub counts : IsAccessible g state
  pub class : AllArcs EpsilonArc cycle
  pub improves : IsImprovingCycle g kind state cycle
  pub same : written steps ≡ places cycle

-- The machine without epsilon arcs has more arcs than the limit.
pub record HasManyArcs (kind : ArcType) (m : Machine Cost) : Type 0 where
  pub result : Machine Cost
  pub removed : IsRemovedMachine kind m result
  pub many : most_arcs < arc_total result.states

-- The result has not too many arcs, and this is its first state with a weight that is out of range.
pub record IsOut (kind : ArcType) (m : Machine Cost) (state : ℕ) : Type 0 where
  pub result : Machine Cost
  pub removed : IsRemovedMachine kind m result
  pub few : arc_total result.states ≤ most_arcs
  pub past : IsFirstPast result state

-- What stands against the result: a cycle of epsilon arcs that is better than One; or there is none, and the arcs are too
-- many; or they are not, and this is the first state with a weight that is out of range.
abbrev pub Stops : ArcType → Machine Cost → EpsilonFault → Type 0
Stops kind m (ImprovingCycle cycle) = IsImprovingSilently kind (graph_of m) cycle
Stops kind m TooManyArcs = NoSilentCycle kind (graph_of m) × HasManyArcs kind m
Stops kind m (Overflow state) = NoSilentCycle kind (graph_of m) × IsOut kind m state
Stops kind m Memory = ⊥

-- nothing stands against the result
pub record IsFine (kind : ArcType) (m h : Machine Cost) : Type 0 where
  pub removed : IsRemovedMachine kind m h
  pub few : arc_total h.states ≤ most_arcs
  pub range : All IsInRange h.states

-- The result has no epsilon arcs, and each pair of strings the weight that it had.
pub record KeepsWeights (kind : ArcType) (m h : Machine Cost) : Type 0 where
  pub none : HasNoEpsilons h.states
  pub weights : (x y : List ℕ) (w : Cost) → IsWeight kind (graph_of m) x y w ↔ IsWeight kind (graph_of h) x y w
