-- What a table of slots, with a map beside it, tells of the places of numbers.
use Rattle.std.specs.Prelude.{ℕ, ◌*◌, ◌-◌, ◌/◌, List, length, Option, get_or, nat_lt, if◌then◌else◌}
use Rattle.fst_table.specs.Slots.{first_slot, place_in_slot, placed_among}
use Rattle.fst_table.specs.declared.flat_table.FlatTable.{FlatTable}

-- the place of a number
unfoldable pub placed_in : FlatTable → ℕ → Option ℕ
placed_in table n = placed_among table.slots.items table.overflow n

-- the slot at which the look for a number begins
abbrev pub start_in : FlatTable → ℕ → ℕ
start_in table n = first_slot (length table.slots.items) n

-- how many numbers go into the slots before a table grows
abbrev pub room_in : FlatTable → ℕ
room_in table = length table.slots.items / 3 * 2 - table.used

-- numbers below the bound stand in the list by number, and others in the table
abbrev pub found_among : ℕ → List ℕ → FlatTable → ℕ → Option ℕ
found_among bound dense sparse n = if nat_lt n bound then place_in_slot (get_or dense n 4294967295) else placed_in sparse n
