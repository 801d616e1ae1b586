-- The connected machine: just the useful states. (OpenFst manual, "Connect"; Mohri 2009, section 3.1:
-- trimming.)
use Rattle.std.specs.Prelude.{◌≡◌, ◌⊎◌, ◌↔◌, ℕ, ◌<◌, zero, suc, List, [], ◌∷◌, Some, length, slice_get}
use Rattle.fst_semiring.specs.Cost.{Cost}
use Rattle.fst_machine.specs.Machine.{Arc, Machine}
use Rattle.fst_machine.specs.Graph.{graph_of}
use Rattle.fst_machine.specs.Letters.{letter_of}
use Rattle.fst_machine.specs.Cycles.{IsUseful}
use Rattle.fst_machine.specs.BreadthFirst.{Has}

-- every state is useful
abbrev pub IsTrim : Machine Cost → Type 0
IsTrim m = (p : ℕ) → p < length m.states → IsUseful (graph_of m) p

-- The new arcs are those whose ends are kept, in order, with the places of these ends in the list of the
-- kept.
abbrev pub Kept : List ℕ → List (Arc Cost ℕ) → List (Arc Cost ℕ) → Type 0
Kept kept [] [] = Unit {0}
Kept kept [] (b ∷ new) = ⊥
Kept kept (a ∷ arcs) [] = (Has kept a.next → ⊥) × Kept kept arcs []
Kept kept (a ∷ arcs) (b ∷ new) = ((Has kept a.next → ⊥) × Kept kept arcs (b ∷ new))
    ⊎ ((slice_get kept b.next ≡ Some a.next) × (letter_of b ≡ letter_of a) × Kept kept arcs new)

-- The arc in place k of these is the one in place j of those that lead to kept states.
abbrev pub IsKeptAt : List ℕ → List (Arc Cost ℕ) → ℕ → ℕ → Type 0
IsKeptAt kept [] k j = ⊥
IsKeptAt kept (a ∷ arcs) zero j = Has kept a.next × (j ≡ 0)
IsKeptAt kept (a ∷ arcs) (suc k) zero = (Has kept a.next → ⊥) × IsKeptAt kept arcs k zero
IsKeptAt kept (a ∷ arcs) (suc k) (suc j) = (Has kept a.next × IsKeptAt kept arcs k j) ⊎ ((Has kept a.next → ⊥) × IsKeptAt kept arcs k (suc j))

-- c is m with its useful states alone, in ascending order, and the arcs between them.
pub record IsConnected (m c : Machine Cost) : Type 0 where
  pub kept : List ℕ
  pub ascending : (i j p q : ℕ) → i < j → slice_get kept i ≡ Some p → slice_get kept j ≡ Some q → p < q
  pub useful : (p : ℕ) → Has kept p ↔ IsUseful (graph_of m) p
  pub states : length c.states ≡ length kept
  pub start : (i : ℕ) → (c.start ≡ Some i) ↔ ((p : ℕ) × (m.start ≡ Some p) × (slice_get kept i ≡ Some p))
  pub final : (i p : ℕ) → slice_get kept i ≡ Some p → (graph_of c).final i ≡ (graph_of m).final p
  pub arcs : (i p : ℕ) → slice_get kept i ≡ Some p → Kept kept ((graph_of m).arcs p) ((graph_of c).arcs i)
