-- A walk on its way.
use Rattle.std.specs.Prelude.{◌≡◌, ℕ, ◌<◌, ◌≤◌, Bool, List, ◌++◌, length}
use Rattle.fst_machine.specs.Graph.{Graph}
use Rattle.fst_machine.specs.BreadthFirst.{After}
use Rattle.fst_machine.specs.Marks.{Marks}

-- A walk that has found these names, and followed the arcs of so many of them.
pub record IsWalking {N : Type 0} (g : Graph N) (start : N) (names : List N) (taken : ℕ) : Type 0 where
  pub within : taken ≤ length names
  pub grown : After g start names taken names
  pub earlier : (i : ℕ) → i < taken → (found : List N) × (rest : List N) × After g start names i found × (names ≡ found ++ rest) × (i < length found)

-- A walk over this count of states that marks those that it has found.
pub record IsMarkedWalk (g : Graph ℕ) (start : ℕ) (seen : List Bool) (names : List ℕ) (taken count : ℕ) : Type 0 where
  pub walking : IsWalking g start names taken
  pub marks : Marks seen names
  pub size : length seen ≡ count
