-- What a list by number and a table of slots tell of the places of numbers.
use Rattle.std.specs.Prelude.{ℕ, Option}
use Rattle.fst_table.specs.Placed.{found_among}
use Rattle.fst_table.specs.declared.places.Places.{Places}

-- what is known of a number
abbrev pub found_in : Places → ℕ → Option ℕ
found_in places n = found_among places.bound places.dense.items places.sparse n
