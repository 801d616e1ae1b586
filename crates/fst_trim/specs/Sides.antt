-- Arcs that stand by their labels. (OpenFst manual, "ArcSort".)
use Rattle.std.specs.Prelude.{ℕ, List, All}
use Rattle.std.specs.List.Sorted.{IsNonDecreasingBy}
use Rattle.fst_machine.specs.Machine.{Arc, Machine}
use Rattle.fst_trim.specs.declared.side.Side.{Side}
use Rattle.fst_trim.specs.declared.side.Side.TheVariants.{Input, Output}

-- the label of an arc on a side
abbrev pub label_of : {V N : Type 0} → Side → Arc V N → ℕ
label_of Input a = a.ilabel
label_of Output a = a.olabel

-- no label on the side is below one before it
abbrev pub StandsBy : {V : Type 0} → Side → List (Arc V ℕ) → Type 0
StandsBy side arcs = IsNonDecreasingBy (label_of side) arcs

-- the arcs of each state stand by their labels on the side
abbrev pub IsSortedOn : {V : Type 0} → Side → Machine V → Type 0
IsSortedOn side m = All (λ s. StandsBy side s.arcs) m.states
