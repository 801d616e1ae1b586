-- Reading the file form of a codex from left to right, with the first fault that is met. What is read is a value
-- and the offset after it.
use Rattle.std.specs.Prelude.{ℕ, ◌+◌, List, [], ◌∷◌, length, Bool, true, false, Result, Ok, nat_le, ◌==◌, if◌then◌else◌, bytes_eq, slice_index}
use Rattle.fst_fields.specs.Reading as reading
use Rattle.fst_fields.specs.Reading.{◌>>=◌}
use Rattle.fst_semiring.specs.declared.arc_type.ArcType.{ArcType}
use Rattle.fst_semiring.specs.Cost.{Cost}
use Rattle.fst_semiring.specs.Names.{known}
use Rattle.fst_semiring.specs.Semiring.{one_of}
use Rattle.fst_bytes.specs.declared.fault.FileFault.{FileFault}
use Rattle.fst_bytes.specs.Reading.{arc_type_at, fault, label_at, many_at, non_zero_weight_at, number_where, part_at}
use Rattle.fst_codex.specs.declared.fault.CodexKind.{CodexKind}
use Rattle.fst_codex.specs.declared.fault.CodexKind.TheVariants.{Short, BadMagic, UnknownArcType, BadFlags, BadCount, BadLabel, BadWeight, Extra, Memory}
use Rattle.fst_codex.specs.Spelling.{magic}
use Rattle.fst_codex.specs.Table.{Entry, Table, most_entries}

-- a fault of a file of a codex
abbrev pub CodexFault : Type 0
CodexFault = FileFault CodexKind

-- What a function returned, seen by view, is what reading gives, unless memory ran out.
abbrev pub no_memory : CodexFault
no_memory = record { offset = 0; kind = Memory }

abbrev pub Fails : {Y : Type 0} → CodexFault → Result Y CodexFault → Type 0
Fails f read = reading.Fails no_memory f read

abbrev pub Gives : {X Y : Type 0} → (X → Y) → Result X CodexFault → Result Y CodexFault → Type 0
Gives view result read = reading.Gives no_memory view result read

-- ---- the heading

-- the offset after the magic bytes
unfoldable pub magic_at : List ℕ → Result ℕ CodexFault
magic_at bytes = do
  part ← part_at Short 8 bytes 0
  if bytes_eq magic part.0 then Ok part.1 else fault BadMagic 0

-- the fields up to the arc type, which is one of these
unfoldable pub types_at : List ArcType → List ℕ → Result (ArcType × ℕ) CodexFault
types_at kinds bytes = do
  behind ← magic_at bytes
  arc_type_at kinds Short UnknownArcType bytes behind

-- the arc type of a file
unfoldable pub codex_arc_type_of_bytes : List ℕ → Result ArcType CodexFault
codex_arc_type_of_bytes bytes = do
  types ← types_at known bytes
  Ok types.0

-- whether weights stand in the entries
unfoldable pub flag_at : List ℕ → ℕ → Result (Bool × ℕ) CodexFault
flag_at bytes at =
    if nat_le (length bytes) at then fault Short (length bytes)
    else (if slice_index bytes at == 0 then Ok (false, at + 1)
    else (if slice_index bytes at == 1 then Ok (true, at + 1)
    else fault BadFlags at))

-- ---- entries

-- the weight where weights stand in the entries, else One
abbrev pub weight_part_at : ArcType → Bool → List ℕ → ℕ → Result (Cost × ℕ) CodexFault
weight_part_at kind false bytes at = Ok (one_of kind, at)
weight_part_at kind true bytes at = non_zero_weight_at kind Short BadWeight bytes at

-- an entry
unfoldable pub entry_at : ArcType → Bool → List ℕ → ℕ → Result (Entry Cost × ℕ) CodexFault
entry_at kind weights bytes at = do
  ilabel ← label_at Short BadLabel bytes at
  olabel ← label_at Short BadLabel bytes ilabel.1
  weight ← weight_part_at kind weights bytes olabel.1
  Ok (record { ilabel = ilabel.0; olabel = olabel.0; weight = weight.0 }, weight.1)

-- so many entries
abbrev pub entries_at : ArcType → Bool → ℕ → List ℕ → ℕ → Result (List (Entry Cost) × ℕ) CodexFault
entries_at kind weights n bytes at = many_at (entry_at kind weights bytes) n at

-- how many bytes an entry has at least: two labels, and a tag where weights stand in the entries
abbrev pub least_of : Bool → ℕ
least_of false = 8
least_of true = 9

-- ---- the whole

-- what stands after the arc type, to the end of the bytes
unfoldable pub table_at : ArcType → List ℕ → ℕ → Result (Table Cost) CodexFault
table_at kind bytes at = do
  weights ← flag_at bytes at
  count ← number_where (λ n. nat_le n most_entries) Short BadCount 8 bytes weights.1
  entries ← entries_at kind weights.0 count.0 bytes count.1
  if entries.1 == length bytes then Ok (record { weights = weights.0; entries = entries.0 }) else fault Extra entries.1

-- the codex of a file whose arc type is this one
unfoldable pub codex_of_bytes : ArcType → List ℕ → Result (Table Cost) CodexFault
codex_of_bytes kind bytes = do
  types ← types_at (kind ∷ []) bytes
  table_at kind bytes types.1
