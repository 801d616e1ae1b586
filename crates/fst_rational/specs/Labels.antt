-- Machines whose arcs have other labels. (Mohri 2009, section 3.1, inversion and projection; OpenFst manual,
-- "Invert", "Project", "Relabel".)
use Rattle.std.specs.Prelude.{ℕ, ◌<◌, ◌≤◌, ◌==◌, nat_eq, Bool, true, false, List, [], ◌∷◌, map, All, if◌then◌else◌}
use Rattle.std.specs.List.{IsDistinct}
use Rattle.fst_semiring.specs.Cost.{Cost}
use Rattle.fst_machine.specs.Machine.{Arc, State, Machine, greatest_label}
use Rattle.fst_machine.specs.Letters.{before}

-- How a label comes of the input and the output label of an arc.
abbrev pub Rule : Type 0
Rule = ℕ → ℕ → ℕ

-- the arc with labels by two rules, one for each side
abbrev pub labelled : {V N : Type 0} → Rule → Rule → Arc V N → Arc V N
labelled reads writes a = record { ilabel = reads a.ilabel a.olabel; olabel = writes a.ilabel a.olabel; weight = a.weight; next = a.next }

-- the machine with such labels: the same states, start, final weights, and arcs in order
abbrev pub labelled_state : Rule → Rule → State Cost → State Cost
labelled_state reads writes s = record { final = s.final; arcs = map (labelled reads writes) s.arcs }

abbrev pub labelled_machine : Rule → Rule → Machine Cost → Machine Cost
labelled_machine reads writes m = record { start = m.start; states = map (labelled_state reads writes) m.states }

-- the label of the one and of the other side
abbrev pub input_side : Rule
input_side i o = i

abbrev pub output_side : Rule
output_side i o = o

-- the label of the output side, or of the input side
abbrev pub side : Bool → Rule
side true = output_side
side false = input_side

-- labels by these rules are in range where the old ones are
abbrev pub KeepsRange : Rule → Rule → Type 0
KeepsRange reads writes = (i o : ℕ) → i ≤ greatest_label → o ≤ greatest_label → (reads i o ≤ greatest_label) × (writes i o ≤ greatest_label)

-- inversion: the labels are swapped
abbrev pub inverted : Machine Cost → Machine Cost
inverted m = labelled_machine output_side input_side m

-- projection: one side's label stands on both sides
abbrev pub projected : Bool → Machine Cost → Machine Cost
projected written m = labelled_machine (side written) (side written) m

-- A list of an old label and its new label. An old label is not epsilon.
pub record Pair : Type 0 where
  pub old : ℕ
  pub new : ℕ

-- pairs of which no two have one old label, which is not epsilon, and all labels are in range
pub record IsPairs (pairs : List Pair) : Type 0 where
  pub distinct : IsDistinct nat_eq (map (λ p. p.old) pairs)
  pub labels : All (λ p. 0 < p.old) pairs
  pub small : All (λ p. (p.old ≤ greatest_label) × (p.new ≤ greatest_label)) pairs

-- the new label of an old one; a label that is no old one stays
abbrev pub new_label : List Pair → ℕ → ℕ
new_label [] n = n
new_label (p ∷ pairs) n = if n == p.old then p.new else new_label pairs n

-- relabelling: each label that is an old one of its side's pairs becomes its new one
abbrev pub relabelled : List Pair → List Pair → Machine Cost → Machine Cost
relabelled reads writes m = labelled_machine (λ i o. new_label reads i) (λ i o. new_label writes o) m

-- the string with each old label replaced by its new one, and without what became epsilon
abbrev pub replaced : List Pair → List ℕ → List ℕ
replaced pairs [] = []
replaced pairs (n ∷ ns) = before (new_label pairs n) (replaced pairs ns)
