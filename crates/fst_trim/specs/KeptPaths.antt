-- A machine and the machine of some of its states have the same successful paths, one to one.
use Rattle.std.specs.Prelude.{◌≡◌, ℕ, List, Some, slice_get}
use Rattle.fst_semiring.specs.Cost.{Cost}
use Rattle.fst_semiring.specs.declared.arc_type.ArcType.{ArcType}
use Rattle.fst_machine.specs.Machine.{Machine}
use Rattle.fst_machine.specs.Graph.{graph_of}
use Rattle.fst_machine.specs.Paths.{Transition}
use Rattle.fst_machine.specs.Connected.{IsConnected, IsKeptAt}
use Rattle.fst_trim.specs.OneToOne.{Tied, IsOneToOne}

-- c is m connected, and these are the states that it keeps: state i of c is the i-th of them, with the arcs between
-- them in their order
abbrev pub IsConnectedOn : Machine Cost → Machine Cost → List ℕ → Type 0
IsConnectedOn m c kept = (h : IsConnected m c) × (h.kept ≡ kept)

-- The second path goes through the states of the first by their new numbers, and by their arcs, in their new
-- places.
abbrev pub IsRenumbered : Machine Cost → List ℕ → List (Transition ℕ) → List (Transition ℕ) → Type 0
IsRenumbered m kept = Tied (λ p i. slice_get kept i ≡ Some p) (λ p i. IsKeptAt kept ((graph_of m).arcs p))

-- Keeping just these states keeps the successful paths, one to one, with their letters and weights: each of m is
-- renumbered to one of c, and to one only, and each of c comes from one of m, and from one only.
abbrev pub KeepsPaths : ArcType → Machine Cost → Machine Cost → List ℕ → Type 0
KeepsPaths kind m c kept = IsOneToOne kind (graph_of m) (graph_of c) (IsRenumbered m kept)
