-- Strings that are read along paths.
use Rattle.std.specs.Prelude.{◌≡◌, ◌⊎◌, ℕ, List, [], ◌∷◌, map}
use Rattle.fst_machine.specs.Letters.{input}
use Rattle.fst_machine.specs.Paths.{letters}
use Rattle.fst_plain.specs.declared.path.PlainPath.{PlainPath}
use Rattle.fst_plain.specs.declared.path.PlainTransition.{PlainTransition}
use Rattle.fst_plain.specs.PlainPaths.{transition_of}

-- the string that is read along the arcs
abbrev pub read_along : List PlainTransition → List ℕ
read_along transitions = input (letters (map transition_of transitions))

-- some path of the list reads the string
abbrev pub IsReadBy : List PlainPath → List ℕ → Type 0
IsReadBy [] x = ⊥
IsReadBy (p ∷ paths) x = (read_along p.transitions.items ≡ x) ⊎ IsReadBy paths x
