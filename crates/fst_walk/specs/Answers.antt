-- What a walk answers.
use Rattle.std.specs.Prelude.{◌≡◌, ◌↔◌, ◌<◌, ◌≤◌, ℕ, List, [], Some, Result, IsErrOf, All, MatchOption, length}
use Rattle.fst_semiring.specs.Cost.{Cost}
use Rattle.fst_machine.specs.BreadthFirst.{Apart, Has, IsBreadthFirst}
use Rattle.fst_machine.specs.Graph.{Graph}
use Rattle.fst_machine.specs.Machine.{Machine, most_arcs}
use Rattle.fst_machine.specs.Numbering.{IsNumbered}
use Rattle.fst_machine.specs.Paths.{IsPath, Transition}
use Rattle.fst_walk.specs.Making.{Fits, IsFirstOut, IsReached, arcs_of}
use Rattle.fst_walk.specs.declared.fault.WalkFault.{WalkFault}
use Rattle.fst_walk.specs.declared.fault.WalkFault.TheVariants.{StateLimit, TooManyArcs, Overflow}

module _ {N : Type 0} (g : Graph N) where
  -- more names than the limit can be reached from the start
  pub record ReachesMore (limit : ℕ) : Type 0 where
    pub start : N
    pub starts : g.start ≡ Some start
    pub names : List N
    pub apart : Apart names
    pub reached : (n : N) → Has names n → (path : List (Transition N)) × IsPath g start path n
    pub more : limit < length names

  -- these names can be reached and no others, and their machine has too many arcs
  pub record HasManyArcs (limit : ℕ) : Type 0 where
    pub names : List N
    pub reached : IsReached g limit names
    pub many : most_arcs < arcs_of g names

  -- these names can be reached and no others, and the one in this place is the first with a weight out of range
  pub record IsOut (limit place : ℕ) : Type 0 where
    pub names : List N
    pub reached : IsReached g limit names
    pub few : arcs_of g names ≤ most_arcs
    pub out : IsFirstOut g names place

  -- these names can be reached and no others, and nothing stands against their machine
  pub record IsFine (limit : ℕ) (names : List N) : Type 0 where
    pub reached : IsReached g limit names
    pub few : arcs_of g names ≤ most_arcs
    pub range : All (Fits g) names

  -- The fault stands against the machine of the names: more names than the limit can be reached; or no more can, and
  -- they have too many arcs; or they have not, and this is the first with a weight that is out of range.
  abbrev pub Stops : ℕ → WalkFault → Type 0
  Stops most (StateLimit limit) = (limit ≡ most) × ReachesMore most
  Stops most TooManyArcs = HasManyArcs most
  Stops most (Overflow place) = IsOut most place

  -- a fault comes exactly where it stands against the machine
  abbrev pub IsExactly : {X : Type 0} → ℕ → Result X WalkFault → Type 0
  IsExactly most result = (fault : WalkFault) → IsErrOf result fault ↔ Stops most fault

  -- the names that the start reaches, as a breadth-first list, and their machine
  pub record IsNamed (names : List N) (m : Machine Cost) : Type 0 where
    pub listed : MatchOption g.start (names ≡ []) (λ start. IsBreadthFirst g start names)
    pub numbered : IsNumbered g names m
