-- Lists of rows in one store.
use Rattle.std.specs.Prelude.{ℕ, ◌+◌, ◌≤◌, List, take, drop, map}
use Rattle.fst_minimize.specs.declared.rows.Span.{Span}

-- the part of the store that is a row
abbrev pub part_of : List ℕ → Span → List ℕ
part_of items span = take span.count (drop span.first items)

-- the rows
abbrev pub rows_of : List ℕ → List Span → List (List ℕ)
rows_of items spans = map (part_of items) spans

-- the part lies in a store of so many items
abbrev pub FitsIn : ℕ → Span → Type 0
FitsIn n span = span.first + span.count ≤ n
