-- The walk of a line on its way.
use Rattle.std.specs.Prelude.{◌≡◌, ◌+◌, ◌≤◌, ◌++◌, ℕ, List, [], All, MatchOption, Some, length, map, slice_get, take}
use Rattle.fst_semiring.specs.Cost.{Cost}
use Rattle.fst_machine.specs.BreadthFirst.{Has}
use Rattle.fst_machine.specs.Graph.{Graph, nexts}
use Rattle.fst_semiring.specs.declared.arc_type.ArcType.{ArcType}
use Rattle.fst_machine.specs.Machine.{Arc, Machine}
use Rattle.fst_machine.specs.Walking.{IsWalking}
use Rattle.fst_walk.specs.Making.{Passes}
use Rattle.fst_delayed.specs.Handed.{Name}
use Rattle.fst_delayed.specs.Graphs.{IsKeyOf, delayed_graph}
use Rattle.fst_lattice.specs.declared.state.JobState.{JobState}
use Rattle.fst_lattice.specs.declared.state.JobState.TheVariants.{Needs, Walked}
use Rattle.fst_lattice.specs.declared.stage.Stage.{Stage}
use Rattle.fst_lattice.specs.declared.stage.Stage.TheVariants.{Bad, Going, Stopped}
use Rattle.fst_lattice.specs.Lattice.{HasNoZero, Point, arc_to, lattice, reading}

-- What a job is: the number of its line, the limit, how far it has come, the names that it has found and how many of them
-- it has taken.
pub record LineWalk : Type 0 where
  pub index : ℕ
  pub limit : ℕ
  pub stage : Stage
  pub points : List (Point (Name ℕ ℕ))
  pub taken : ℕ

-- the arcs that read this label, to names at this position
abbrev pub label_arcs : {N : Type 0} → ℕ → ℕ → List (Arc Cost N) → List (Arc Cost (Point N))
label_arcs label i arcs = map (arc_to i) (reading label arcs)

module _ {N : Type 0} (g : Graph N) (limit : ℕ) (names : List N) (taken : ℕ) where
  -- a walk that has found these names, no more than the limit, and taken so many of them
  pub record IsWalkOf : Type 0 where
    pub start : N
    pub starts : g.start ≡ Some start
    pub walking : IsWalking g start names taken
    pub few : length names ≤ limit

  -- a walk that has found more names than the limit by the last name that it took
  pub record IsStopped : Type 0 where
    pub start : N
    pub starts : g.start ≡ Some start
    pub before : List N
    pub last : ℕ
    pub name : N
    pub walking : IsWalking g start before last
    pub few : length before ≤ limit
    pub there : slice_get before last ≡ Some name
    pub passes : Passes limit before (nexts (g.arcs name))
    pub more : List N
    pub front : names ≡ before ++ more
    pub count : taken ≡ last + 1

-- The walk of a line over a graph: where the line holds a byte 0, it has nothing to do, nor where the graph has no start.
abbrev pub IsAt : List ℕ → Graph (Name ℕ ℕ) → ℕ → List (Point (Name ℕ ℕ)) → ℕ → Stage → Type 0
IsAt line g limit points taken Going = HasNoZero line × MatchOption (lattice line g).start ((points ≡ []) × (taken ≡ 0)) (λ start. IsWalkOf (lattice line g) limit points taken)
IsAt line g limit points taken Stopped = HasNoZero line × IsStopped (lattice line g) limit points taken
IsAt line g limit points taken Bad = (HasNoZero line → ⊥) × (points ≡ []) × (taken ≡ 0)

abbrev pub IsWalkOfLine : List ℕ → Graph (Name ℕ ℕ) → LineWalk → Type 0
IsWalkOfLine line g w = IsAt line g w.limit w.points w.taken w.stage

-- it stands before this name, which it has to take next
pub record IsHead (w : LineWalk) (at : Point (Name ℕ ℕ)) : Type 0 where
  pub going : w.stage ≡ Going
  pub there : slice_get w.points w.taken ≡ Some at

-- the walk is over: no name is left to take, or it has stopped or never began
abbrev pub IsOver : LineWalk → Type 0
IsOver w = w.stage ≡ Going → length w.points ≤ w.taken

-- the names of the graph at the names that were taken
abbrev pub taken_names : LineWalk → List (Name ℕ ℕ)
taken_names w = map (λ p. p.name) (take w.taken w.points)

-- all of them are among these
abbrev pub AreAmong : {N : Type 0} → List N → List N → Type 0
AreAmong {N} ns all = (n : N) → Has ns n → Has all n

-- A job of a line over two machines: the walk of its line, which has found names of states of the machines, and taken names
-- that are among these.
pub record IsJob {V : Type 0} (kind : ArcType) (value : V → Cost) (d : Machine V × Machine V) (line : List ℕ) (known : List (Name ℕ ℕ)) (w : LineWalk) : Type 0 where
  pub walk : IsWalkOfLine line (delayed_graph kind value d) w
  pub keys : w.stage ≡ Going → All (λ p. IsKeyOf d p.name) w.points
  pub held : AreAmong (taken_names w) known

-- what a job answers that can take no further name: it needs one that is not among these, or it is over
abbrev pub IsState : LineWalk → List (Name ℕ ℕ) → JobState → Type 0
IsState w known (Needs name) = (at : Point (Name ℕ ℕ)) × IsHead w at × (at.name ≡ name) × (Has known name → ⊥)
IsState w known Walked = IsOver w
