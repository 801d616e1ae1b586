-- Numberings of states that are refined until states with one number have the same behaviour. (Mohri 2009, section
-- 3.4: partition refinement, as of unweighted automata whose labels are pairs of a label and a weight.)
use Rattle.std.specs.Prelude.{◌≡◌, ℕ, ◌<◌, List, [], ◌∷◌, map}
use Rattle.fst_semiring.specs.Cost.{Cost}
use Rattle.fst_machine.specs.Machine.{Arc}
use Rattle.fst_machine.specs.Graph.{Graph, nexts}
use Rattle.fst_machine.specs.Letters.{Letter, letter_of}
use Rattle.fst_machine.specs.BreadthFirst.{Has}
use Rattle.fst_minimize.specs.Behaviour.{Alike}

-- the input labels ascend, so none stands twice
abbrev pub LabelsAscend : {N : Type 0} → List (Arc Cost N) → Type 0
LabelsAscend [] = Unit {0}
LabelsAscend {N} (a ∷ arcs) = ((b : Arc Cost N) → Has arcs b → a.ilabel < b.ilabel) × LabelsAscend arcs

-- the letters of a list of arcs
abbrev pub spelling : {N : Type 0} → List (Arc Cost N) → List Letter
spelling arcs = map letter_of arcs

-- the numbers of the ends of a list of arcs
abbrev pub row : (ℕ → ℕ) → List (Arc Cost ℕ) → List ℕ
row C arcs = map C (nexts arcs)

-- Of n states, those with equal behaviour have one number, and those with one number have the same final weight and
-- the same letters.
pub record IsRefined (g : Graph ℕ) (n : ℕ) (C : ℕ → ℕ) : Type 0 where
  pub coarse : (p q : ℕ) → p < n → q < n → Alike g g p q → C p ≡ C q
  pub finals : (p q : ℕ) → p < n → q < n → C p ≡ C q → g.final p ≡ g.final q
  pub letters : (p q : ℕ) → p < n → q < n → C p ≡ C q → spelling (g.arcs p) ≡ spelling (g.arcs q)

-- A round numbers states by their numbers and those of the ends of their arcs.
pub record IsRound (g : Graph ℕ) (n : ℕ) (C C2 : ℕ → ℕ) : Type 0 where
  pub same : (p q : ℕ) → p < n → q < n → C2 p ≡ C2 q → (C p ≡ C q) × (row C (g.arcs p) ≡ row C (g.arcs q))
  pub other : (p q : ℕ) → p < n → q < n → C p ≡ C q → row C (g.arcs p) ≡ row C (g.arcs q) → C2 p ≡ C2 q
