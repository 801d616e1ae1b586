-- The codes by which workers claim names of a composition.
use Rattle.std.specs.Prelude.{ℕ, ◌+◌, ◌*◌}
use Rattle.fst_machine.specs.Machine.{most_states}
use Rattle.fst_compose.specs.Names.{Name}

-- the code of a name
abbrev pub code_of : Name ℕ ℕ → ℕ
code_of n = 1 + 2 * (n.first * most_states + n.second) + n.filter
