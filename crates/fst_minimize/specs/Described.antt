-- States that are described by rows of numbers.
use Rattle.std.specs.Prelude.{◌≡◌, ℕ, List, Some, All, length, map, slice_get}
use Rattle.fst_semiring.specs.Cost.{Cost}
use Rattle.fst_semiring.specs.declared.arc_type.ArcType.{ArcType}
use Rattle.fst_semiring.specs.Semiring.{IsCost}
use Rattle.fst_machine.specs.Machine.{Arc}
use Rattle.fst_machine.specs.Graph.{Graph, nexts}
use Rattle.fst_machine.specs.BreadthFirst.{Apart}
use Rattle.fst_minimize.specs.declared.weights.WeightKey.{WeightKey}
use Rattle.fst_minimize.specs.declared.describing.Describer.{Describer}
use Rattle.fst_minimize.specs.Saying.{IsByLabel, SaysState}
use Rattle.fst_minimize.specs.Numbered.{IsNumbering, TellsApart}
use Rattle.fst_minimize.specs.Numberers.{HasSeen}

-- The first states are described: their arcs by labels, what is said of them, and the ends of their arcs.
pub record DescribedBy (g : Graph ℕ) (done : ℕ) (keys : List WeightKey) (sorted : List (List (Arc Cost ℕ)))
    (seen : List (ℕ × List ℕ)) (rows : List (List ℕ)) : Type 0 where
  pub size : length sorted ≡ done
  pub sizes : length seen ≡ done
  pub apart : Apart keys
  pub rows_are : rows ≡ map nexts sorted
  pub by_label : (p : ℕ) (arcs : List (Arc Cost ℕ)) → slice_get sorted p ≡ Some arcs → IsByLabel (g.arcs p) arcs
  pub said : (p : ℕ) (arcs : List (Arc Cost ℕ)) → slice_get sorted p ≡ Some arcs
      → (head : ℕ) × (said : List ℕ) × (slice_get seen p ≡ Some (head, said)) × SaysState keys (g.final p) arcs head said

-- the first states are described and numbered
abbrev pub IsDescribed : Graph ℕ → ℕ → Describer → Type 0
IsDescribed g done d = (sorted : List (List (Arc Cost ℕ))) × (seen : List (ℕ × List ℕ))
    × DescribedBy g done d.keys sorted seen d.rows × HasSeen seen d.numberer

-- the weights of a state are values of the arc type
abbrev pub OfKind : ArcType → Graph ℕ → ℕ → Type 0
OfKind kind g p = All (λ a. IsCost kind a.weight) (g.arcs p) × IsCost kind (g.final p)

-- no label stands in two places
abbrev pub OncePlaced : List (Arc Cost ℕ) → Type 0
OncePlaced arcs = (i j : ℕ) (a b : Arc Cost ℕ) → slice_get arcs i ≡ Some a → slice_get arcs j ≡ Some b → a.ilabel ≡ b.ilabel → i ≡ j

abbrev pub OncePlacedAll : Graph ℕ → Type 0
OncePlacedAll g = (p : ℕ) → OncePlaced (g.arcs p)

-- The states are described by some rows, which these numbers tell apart, and the rows of ends are those of their arcs by
-- labels.
pub record IsDescription (g : Graph ℕ) (n : ℕ) (numbers least : List ℕ) (rows : List (List ℕ)) : Type 0 where
  pub keys : List WeightKey
  pub sorted : List (List (Arc Cost ℕ))
  pub seen : List (ℕ × List ℕ)
  pub described : DescribedBy g n keys sorted seen rows
  pub tells : TellsApart seen numbers
  pub numbering : IsNumbering numbers least
