-- Laws of walks.
use Rattle.std.specs.Prelude.{◌≡◌, ℕ, ◌≤◌, List, ◌++◌, Some, length, slice_get}
use Rattle.fst_machine.specs.Graph.{Graph, nexts}
use Rattle.fst_machine.specs.BreadthFirst.{Apart, Has, Grows, IsBreadthFirst, IsWalked}
use Rattle.fst_machine.specs.Paths.{IsPath, Transition}
use Rattle.fst_machine.specs.Walking.{IsWalking}

-- What a walk has found on its way is the front of the finished list, so that a walk that has found too many names
-- may stop.
pub record FrontLaws {N : Type 0} (g : Graph N) (start : N) (names found : List N) (taken : ℕ) : Type 0 where
  pub front : IsWalked g start names → IsWalking g start found taken → (rest : List N) × (names ≡ found ++ rest)
  pub further : IsWalked g start names → IsWalking g start found taken → (n : N) (done left now : List N) → slice_get found taken ≡ Some n
      → nexts (g.arcs n) ≡ done ++ left → Grows found done now → (rest : List N) × (names ≡ now ++ rest)

-- Different names that paths from the start reach are no more than the finished list has.
abbrev pub ReachesFew : {N : Type 0} → Graph N → N → List N → List N → Type 0
ReachesFew {N} g start names xs =
    IsBreadthFirst g start names →
    Apart xs →
    ((x : N) → Has xs x → (path : List (Transition N)) × IsPath g start path x) →
    length xs ≤ length names
