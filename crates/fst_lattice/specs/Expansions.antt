-- Which names of a graph the lines of a batch need, and how many they are.
use Rattle.std.specs.Prelude.{◌≡◌, ℕ, List, length}
use Rattle.fst_machine.specs.BreadthFirst.{Apart, Has}
use Rattle.fst_machine.specs.Graph.{Graph}
use Rattle.fst_lattice.specs.Needed.{IsNeeded}

module _ {N : Type 0} (lines : List (List ℕ)) (g : Graph N) (limit : ℕ) where
  -- one of the lines needs the name
  pub record IsNeededOf (name : N) : Type 0 where
    pub line : List ℕ
    pub among : Has lines line
    pub need : IsNeeded line g limit name

  -- these are the names that the lines need, each once
  pub record AreNeeded (names : List N) : Type 0 where
    pub apart : Apart names
    pub needed : (n : N) → Has names n → IsNeededOf n
    pub all : (n : N) → IsNeededOf n → Has names n

  -- the lines need so many different names
  pub record IsExpansions (count : ℕ) : Type 0 where
    pub names : List N
    pub needed : AreNeeded names
    pub size : count ≡ length names
