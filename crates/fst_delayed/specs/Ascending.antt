-- Arcs that ascend by their input labels.
use Rattle.std.specs.Prelude.{ℕ, List, filter, nat_eq}
use Rattle.std.specs.List.Sorted.{IsNonDecreasingBy}
use Rattle.fst_machine.specs.Machine.{Arc}

-- no input label is below one before it
abbrev pub Ascends : {V N : Type 0} → List (Arc V N) → Type 0
Ascends arcs = IsNonDecreasingBy (λ a. a.ilabel) arcs

-- those of the arcs that read this label, in order
abbrev pub those_reading : {V N : Type 0} → ℕ → List (Arc V N) → List (Arc V N)
those_reading label arcs = filter (λ a. nat_eq a.ilabel label) arcs
