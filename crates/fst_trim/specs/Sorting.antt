-- Machines with their arcs in order. (OpenFst manual, "ArcSort".)
use Rattle.std.specs.Prelude.{◌≡◌, ℕ, Bool, List, Some, filter, length, nat_eq, slice_get, take}
use Rattle.std.specs.List.Sorted.{IsPermutation, IsStableByKey}
use Rattle.std.specs.Ordering.{nat_cmp}
use Rattle.fst_semiring.specs.Cost.{Cost}
use Rattle.fst_semiring.specs.declared.arc_type.ArcType.{ArcType}
use Rattle.fst_machine.specs.Machine.{Arc, State, Machine}
use Rattle.fst_machine.specs.Graph.{graph_of}
use Rattle.fst_machine.specs.Paths.{Transition}
use Rattle.fst_trim.specs.declared.side.Side.{Side}
use Rattle.fst_trim.specs.Sides.{StandsBy, label_of}
use Rattle.fst_trim.specs.OneToOne.{Tied, IsOneToOne}

-- the same arcs by their labels on a side, equal labels in the order that they had
pub record IsStableSort {V : Type 0} (side : Side) (arcs new : List (Arc V ℕ)) : Type 0 where
  pub same : IsPermutation arcs new
  pub stands : StandsBy side new
  pub stable : IsStableByKey (label_of side) nat_cmp arcs new

-- the machine with the arcs of each state in this order, and all else as it was
pub record IsArcSorted {V : Type 0} (side : Side) (m c : Machine V) : Type 0 where
  pub start : c.start ≡ m.start
  pub size : length c.states ≡ length m.states
  pub final : (p : ℕ) (s t : State V) → slice_get m.states p ≡ Some s → slice_get c.states p ≡ Some t → t.final ≡ s.final
  pub arcs : (p : ℕ) (s t : State V) → slice_get m.states p ≡ Some s → slice_get c.states p ≡ Some t → IsStableSort side s.arcs t.arcs

-- whether an arc has this label on a side
abbrev pub has_label : {V : Type 0} → Side → ℕ → Arc V ℕ → Bool
has_label side label a = nat_eq (label_of side a) label

-- how many arcs before this place have the label
abbrev pub earlier_with : {V : Type 0} → Side → ℕ → List (Arc V ℕ) → ℕ → ℕ
earlier_with side label arcs place = length (filter (has_label side label) (take place arcs))

-- The arc in place k stands in place j of the other list: as many arcs with its label stand before it there.
pub record IsMovedPlace {V : Type 0} (side : Side) (arcs new : List (Arc V ℕ)) (k j : ℕ) : Type 0 where
  pub arc : Arc V ℕ
  pub was : slice_get arcs k ≡ Some arc
  pub is : slice_get new j ≡ Some arc
  pub same : earlier_with side (label_of side arc) new j ≡ earlier_with side (label_of side arc) arcs k

-- the second path goes through the same states by the same arcs, in their new places
abbrev pub IsResorted : Side → Machine Cost → Machine Cost → List (Transition ℕ) → List (Transition ℕ) → Type 0
IsResorted side m c = Tied (λ p q. p ≡ q) (λ p q. IsMovedPlace side ((graph_of m).arcs p) ((graph_of c).arcs q))

-- The successful paths of both are the same, one to one, with their letters, weights and states: only the places of
-- the arcs differ.
abbrev pub SortsPaths : ArcType → Side → Machine Cost → Machine Cost → Type 0
SortsPaths kind side m c = IsOneToOne kind (graph_of m) (graph_of c) (IsResorted side m c)
