-- A walk back from the final states of a graph over numbers.
use Rattle.std.specs.Prelude.{◌≡◌, ℕ, ◌<◌, Bool, true, false, List, Some, get_or, slice_get}
use Rattle.fst_semiring.specs.Cost.{Cost, infinite}
use Rattle.fst_machine.specs.Machine.{Arc}
use Rattle.fst_machine.specs.Graph.{Graph}
use Rattle.fst_machine.specs.BreadthFirst.{Apart, Has}
use Rattle.fst_machine.specs.Cycles.{IsCoaccessible}

-- States from which paths lead to final ones, each once and the final ones among them, with all sources of arcs to the
-- first of them: so many have been followed back.
pub record IsWalkingBack (g : Graph ℕ) (names : List ℕ) (taken : ℕ) : Type 0 where
  pub apart : Apart names
  pub reach : (p : ℕ) → Has names p → IsCoaccessible g p
  pub finals : (p : ℕ) → (g.final p ≡ infinite → ⊥) → Has names p
  pub closed : (i q : ℕ) → i < taken → slice_get names i ≡ Some q
      → (p k : ℕ) (a : Arc Cost ℕ) → slice_get (g.arcs p) k ≡ Some a → a.next ≡ q → Has names p

-- the sources of all arcs to these states are among them
abbrev pub IsClosedBack : Graph ℕ → List ℕ → Type 0
IsClosedBack g names = (p k : ℕ) (a : Arc Cost ℕ) → slice_get (g.arcs p) k ≡ Some a → Has names a.next → Has names p

-- one of these arcs leads to a marked state
pub record LeadsTo {V : Type 0} (marks : List Bool) (arcs : List (Arc V ℕ)) : Type 0 where
  pub place : ℕ
  pub arc : Arc V ℕ
  pub there : slice_get arcs place ≡ Some arc
  pub marked : get_or marks arc.next false ≡ true
