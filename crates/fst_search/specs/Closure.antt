-- The states that epsilon arcs reach from a state, with their distances.
use Rattle.std.specs.Prelude.{◌≡◌, ◌⊎◌, ℕ, List, [], Option, get_or, length, map}
use Rattle.fst_semiring.specs.Cost.{Cost, infinite}
use Rattle.fst_semiring.specs.declared.arc_type.ArcType.{ArcType}
use Rattle.fst_semiring.specs.Semiring.{IsCost, Within}
use Rattle.fst_machine.specs.BreadthFirst.{Apart, Has}
use Rattle.fst_machine.specs.Graph.{Graph}
use Rattle.fst_machine.specs.Cycles.{IsImprovingCycle}
use Rattle.fst_machine.specs.Paths.{Transition, places}
use Rattle.fst_machine.specs.Steps.{written}
use Rattle.fst_machine.specs.declared.path.Step.{Step}
use Rattle.fst_machine.specs.Distance.{AllArcs, EpsilonArc, IsDistance, Reaches}
use Rattle.fst_machine.specs.Machine.{State}
use Rattle.fst_trim.specs.Links.{epsilon_links}
use Rattle.fst_search.specs.declared.direction.Direction.TheVariants.{FromStart}
use Rattle.fst_search.specs.Beginning.{IsOnly}
use Rattle.fst_search.specs.Cycles.{Solves}
use Rattle.fst_search.specs.Hops.{IsHop}
use Rattle.fst_search.specs.Searching.{Node, blank_node, distance_at}

-- a state and its distance
pub record Reached (D : Type 0) : Type 0 where
  pub state : ℕ
  pub distance : D

abbrev pub valued_reached : {D : Type 0} → (D → Cost) → Reached D → Reached Cost
valued_reached value r = record { state = r.state; distance = value r.distance }

abbrev pub states_of : List (Reached Cost) → List ℕ
states_of list = map (λ r. r.state) list

-- Some of the states that were met are listed with their distances, and are blank again.
pub record Unmeeting (before nodes : List (Node Cost)) (all met : List ℕ) (list : List (Reached Cost)) : Type 0 where
  pub size : length nodes ≡ length before
  pub apart_met : Apart met
  pub apart : Apart (states_of list)
  pub parted : (p : ℕ) → Has met p → Has (states_of list) p → ⊥
  pub old : (p : ℕ) → Has met p → Has all p
  pub each : (r : Reached Cost) → Has list r → Has all r.state × (r.distance ≡ distance_at before r.state)
  pub every : (p : ℕ) → Has all p → Has met p ⊎ Has (states_of list) p
  pub kept : (q : ℕ) → (Has (states_of list) q → ⊥) → get_or nodes q blank_node ≡ get_or before q blank_node
  pub blanked : (q : ℕ) → Has (states_of list) q → get_or nodes q blank_node ≡ blank_node

-- The states that epsilon arcs reach from q, each once and with its distance over such arcs.
pub record IsClosure (kind : ArcType) (g : Graph ℕ) (q bound : ℕ) (list : List (Reached Cost)) : Type 0 where
  pub apart : Apart (states_of list)
  pub distances : (r : Reached Cost) → Has list r → IsDistance kind g EpsilonArc q r.state r.distance
  pub finite : (r : Reached Cost) → Has list r → r.distance ≡ infinite → ⊥
  pub numbers : (r : Reached Cost) → Has list r → Within bound r.distance
  pub kinds : (r : Reached Cost) → Has list r → IsCost kind r.distance
  pub all : (p : ℕ) (c : Cost) → Reaches kind g EpsilonArc q p c → Has (states_of list) p

-- These steps are an improving cycle of epsilon arcs, on a state that such arcs reach from q.
pub record IsSilentCycle (kind : ArcType) (g : Graph ℕ) (q : ℕ) (steps : List Step) : Type 0 where
  pub state : ℕ
  pub cycle : List (Transition ℕ)
  pub cost : Cost
  pub counts : Reaches kind g EpsilonArc q state cost
  pub class : AllArcs EpsilonArc cycle
  pub improves : IsImprovingCycle g kind state cycle
  pub same : written steps ≡ places cycle

-- What a search from q along epsilon arcs has ended with.
pub record Searched {V : Type 0} (kind : ArcType) (value : V → Cost) (states : List (State V)) (q : ℕ)
    (nodes : List (Node Cost)) (members met : List ℕ) (answer : Option (List Step)) : Type 0 where
  pub source : ℕ → Cost
  pub only : IsOnly kind source q
  pub solves : Solves kind (IsHop value [] (epsilon_links states)) source FromStart (length states) 1000000000000000000 nodes members met answer
