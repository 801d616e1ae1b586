-- What a numberer has seen.
use Rattle.std.specs.Prelude.{ℕ, List}
use Rattle.fst_table.specs.Placed.{placed_in}
use Rattle.fst_minimize.specs.declared.numberer.Numberer.{Numberer}
use Rattle.fst_minimize.specs.Numbered.{Numbers}

-- the numberer has numbered these rows
abbrev pub HasSeen : List (ℕ × List ℕ) → Numberer → Type 0
HasSeen seen n = Numbers (placed_in n.nodes.table) (placed_in n.ends.table) n.ends.count seen n.numbers.items n.least.items
