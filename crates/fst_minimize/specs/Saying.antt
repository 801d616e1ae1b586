-- What is said of a state by numbers: its final weight, and the labels and weights of its arcs by their labels.
use Rattle.std.specs.Prelude.{◌≡◌, ℕ, List, [], ◌∷◌, Some, slice_get}
use Rattle.std.specs.List.Sorted.{IsPermutation}
use Rattle.fst_semiring.specs.Cost.{Cost, class_of, first_of, second_of}
use Rattle.fst_machine.specs.Machine.{Arc}
use Rattle.fst_minimize.specs.declared.weights.WeightKey.{WeightKey}
use Rattle.fst_minimize.specs.Refining.{LabelsAscend}

-- the key of a value: its class and its two numbers
abbrev pub weight_key : Cost → WeightKey
weight_key v = record { class = class_of v; first = first_of v; second = second_of v }

-- what stands in a place of the one list stands there in the other
abbrev pub Extends : {X : Type 0} → List X → List X → Type 0
Extends {X} old new = (k : ℕ) (x : X) → slice_get old k ≡ Some x → slice_get new k ≡ Some x

-- for each arc its label, and the number of its weight
abbrev pub SaysArcs : List WeightKey → List (Arc Cost ℕ) → List ℕ → Type 0
SaysArcs keys [] [] = Unit {0}
SaysArcs keys [] (x ∷ said) = ⊥
SaysArcs keys (a ∷ arcs) [] = ⊥
SaysArcs keys (a ∷ arcs) (l ∷ []) = ⊥
SaysArcs keys (a ∷ arcs) (l ∷ (n ∷ said)) = (l ≡ a.ilabel) × (slice_get keys n ≡ Some (weight_key a.weight)) × SaysArcs keys arcs said

-- The head is the number of the final weight, and the row says the arcs.
abbrev pub SaysState : List WeightKey → Cost → List (Arc Cost ℕ) → ℕ → List ℕ → Type 0
SaysState keys final arcs head said = (slice_get keys head ≡ Some (weight_key final)) × SaysArcs keys arcs said

-- the same arcs, by ascending labels
pub record IsByLabel (arcs new : List (Arc Cost ℕ)) : Type 0 where
  pub same : IsPermutation arcs new
  pub ascend : LabelsAscend new
