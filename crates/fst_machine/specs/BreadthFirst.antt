-- Breadth-first lists, of any kind of name. (Mohri 2009, section 4.1: the states of a result are made as a
-- queue meets them, each once.)
use Rattle.std.specs.Prelude.{◌≡◌, ◌⊎◌, ℕ, ◌<◌, List, [], ◌∷◌, ◌++◌, length, take, slice_get, Some}
use Rattle.std.specs.List.{flat_map}
use Rattle.fst_semiring.specs.Cost.{Cost}
use Rattle.fst_machine.specs.Machine.{Arc}
use Rattle.fst_machine.specs.Graph.{Graph, nexts}

-- x stands in the list
abbrev pub Has : {X : Type 0} → List X → X → Type 0
Has [] x = ⊥
Has (y ∷ ys) x = (y ≡ x) ⊎ Has ys x

-- no element stands twice
abbrev pub Apart : {X : Type 0} → List X → Type 0
Apart [] = Unit {0}
Apart (x ∷ xs) = (Has xs x → ⊥) × Apart xs

-- an arc of the name in this position, in this place, leads to z
pub record LeadsTo {N : Type 0} (g : Graph N) (names : List N) (z : N) (position place : ℕ) : Type 0 where
  pub name : N
  pub arc : Arc Cost N
  pub there : slice_get names position ≡ Some name
  pub has : slice_get (g.arcs name) place ≡ Some arc
  pub leads : arc.next ≡ z

-- pairs of a position and a place in order
abbrev pub Precedes : ℕ → ℕ → ℕ → ℕ → Type 0
Precedes i k j l = (i < j) ⊎ ((i ≡ j) × (k < l))

-- the least pair of a position and a place from which an arc leads to z
pub record IsLeastPair {N : Type 0} (g : Graph N) (names : List N) (z : N) (position place : ℕ) : Type 0 where
  pub leads : LeadsTo g names z position place
  pub least : (j l : ℕ) → LeadsTo g names z j l → Precedes j l position place → ⊥

-- The breadth-first list of a start: it begins with the start, no name stands twice, arcs of its names lead
-- to its names alone, each later name has a least pair, whose position is before its own, and the later
-- names stand in the order of these pairs.
pub record IsBreadthFirst {N : Type 0} (g : Graph N) (start : N) (names : List N) : Type 0 where
  pub begins : slice_get names 0 ≡ Some start
  pub apart : Apart names
  pub closed : (i k : ℕ) (z : N) → LeadsTo g names z i k → Has names z
  pub found : (n : ℕ) (z : N) → slice_get names n ≡ Some z → 0 < n → (i : ℕ) × (k : ℕ) × IsLeastPair g names z i k × (i < n)
  pub ordered : (n m : ℕ) (y z : N) (i k j l : ℕ) → 0 < n → n < m → slice_get names n ≡ Some y → slice_get names m ≡ Some z
      → IsLeastPair g names y i k → IsLeastPair g names z j l → Precedes i k j l

-- The same by how a walk makes it. The names grow by each of these that they do not have yet.
abbrev pub Grows : {N : Type 0} → List N → List N → List N → Type 0
Grows names [] out = names ≡ out
Grows names (x ∷ xs) out = (Has names x × Grows names xs out) ⊎ ((Has names x → ⊥) × Grows (names ++ x ∷ []) xs out)

-- what is found when the arcs of the first i names have been followed, one name after the other
abbrev pub After : {N : Type 0} → Graph N → N → List N → ℕ → List N → Type 0
After g start names i found = Grows (start ∷ []) (flat_map (λ n. nexts (g.arcs n)) (take i names)) found

-- The finished list of a walk from the start: its names lead to just these names, and each name was found
-- before its turn came.
pub record IsWalked {N : Type 0} (g : Graph N) (start : N) (names : List N) : Type 0 where
  pub all : After g start names (length names) names
  pub before : (i : ℕ) → i < length names → (found : List N) × (rest : List N) × After g start names i found × (names ≡ found ++ rest) × (i < length found)
