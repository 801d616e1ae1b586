-- Marks on numbers.
use Rattle.std.specs.Prelude.{ℕ, Bool, false, List, get_or}
use Rattle.std.specs.Bool.{Decides}
use Rattle.fst_machine.specs.BreadthFirst.{Has}

-- just the numbers of the list are marked
abbrev pub Marks : List Bool → List ℕ → Type 0
Marks seen names = (i : ℕ) → Decides (get_or seen i false) (Has names i)
