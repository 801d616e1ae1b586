-- The paths of a graph as words: the places of their arcs.
use Rattle.std.specs.Prelude.{◌≡◌, ℕ, ◌≤◌, Bool, true, false, List, length, Option, None, Some, slice_get}
use Rattle.fst_semiring.specs.Cost.{Cost, best, finite, infinite}
use Rattle.fst_semiring.specs.declared.arc_type.ArcType.{ArcType}
use Rattle.fst_machine.specs.Machine.{Arc}
use Rattle.fst_machine.specs.Graph.{Graph}
use Rattle.fst_machine.specs.Distance.{IsFinalDistance}
use Rattle.fst_semiring.specs.Semiring.{IsCost}
use Rattle.fst_nbest.specs.Words.{Words, Says}

-- a weight that is not Zero
abbrev pub solid : Cost → Option Cost
solid best = Some best
solid (finite a b) = Some (finite a b)
solid infinite = None

-- a step to a name at this distance from the final names, unless that is Zero
abbrev pub toward : {N : Type 0} → Cost → Cost × N → Option (Cost × N)
toward best s = Some s
toward (finite a b) s = Some s
toward infinite s = None

-- an arc as a step
abbrev pub arc_step : {N : Type 0} → (N → Cost) → Option (Arc Cost N) → Option (Cost × N)
arc_step dist None = None
arc_step dist (Some a) = toward (dist a.next) (a.weight, a.next)

-- the words of a graph: a word stops where the name is final, and takes each arc that leads to where it can go on
abbrev pub path_words : {N : Type 0} → Graph N → (N → Cost) → Words N
path_words g dist = record { stop = λ q. solid (g.final q); step = λ q k. arc_step dist (slice_get (g.arcs q) k) }

-- The names that are kept, among which are the start and all to which their arcs lead, have their distances to the final
-- names, and all others Zero.
pub record AreDistances {N : Type 0} (kind : ArcType) (g : Graph N) (dist : N → Cost) : Type 0 where
  pub kept : N → Bool
  pub start : (q : N) → g.start ≡ Some q → kept q ≡ true
  pub along : (q : N) (k : ℕ) (a : Arc Cost N) → kept q ≡ true → slice_get (g.arcs q) k ≡ Some a → kept a.next ≡ true
  pub here : (q : N) → kept q ≡ true → IsFinalDistance kind g q (dist q)
  pub others : (q : N) → kept q ≡ false → dist q ≡ infinite

-- no arc has weight Zero, and each has a weight of the arc type
pub record HasSolidArcs {N : Type 0} (kind : ArcType) (g : Graph N) : Type 0 where
  pub solid : (q : N) (k : ℕ) (a : Arc Cost N) → slice_get (g.arcs q) k ≡ Some a → a.weight ≡ infinite → ⊥
  pub cost : (q : N) (k : ℕ) (a : Arc Cost N) → slice_get (g.arcs q) k ≡ Some a → IsCost kind a.weight

-- The shortest of the best words from this name has so many places.
pub record IsCount {N : Type 0} (kind : ArcType) (g : Words N) (x : N) (d : Cost) (c : ℕ) : Type 0 where
  pub word : List ℕ
  pub says : Says kind g x word d
  pub long : length word ≡ c
  pub least : (other : List ℕ) → Says kind g x other d → c ≤ length other
