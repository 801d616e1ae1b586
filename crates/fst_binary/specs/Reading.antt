-- Reading the binary form from left to right, with the first fault that is met. What is read is a value and
-- the offset after it.
use Rattle.std.specs.Prelude.{ℕ, zero, suc, ◌+◌, List, [], ◌∷◌, length, Bool, true, Option, Some, None, Result, Ok, nat_lt, nat_le, ◌==◌, if◌then◌else◌, codes}
use Rattle.fst_fields.specs.Reading as reading
use Rattle.fst_fields.specs.Reading.{◌>>=◌}
use Rattle.fst_semiring.specs.declared.arc_type.ArcType.{ArcType}
use Rattle.fst_semiring.specs.Cost.{Cost}
use Rattle.fst_semiring.specs.Names.{known}
use Rattle.fst_bytes.specs.Reading.{arc_type_at, fault, file_weight_at, label_at, many_at, named_at, non_zero_weight_at, number_at, number_where}
use Rattle.fst_machine.specs.Machine.{Arc, State, Machine, arc_total, most_arcs, most_states}
use Rattle.fst_binary.specs.declared.fault.BinaryKind.TheVariants.{Short, BadMagic, UnknownFstType, UnknownArcType, BadStart}
use Rattle.fst_binary.specs.declared.fault.BinaryKind.TheVariants.{BadCount, BadLabel, BadNext, BadWeight, Extra, Memory}
use Rattle.fst_binary.specs.declared.header.Header.{Header}
use Rattle.fst_binary.specs.Sides.{Sides, flags_at, sides_at}
pub use Rattle.fst_binary.specs.Faults.{BinaryFault}

-- What a function returned, seen by view, is what reading gives, unless memory ran out.
abbrev pub no_memory : BinaryFault
no_memory = record { offset = 0; kind = Memory }

abbrev pub Fails : {Y : Type 0} → BinaryFault → Result Y BinaryFault → Type 0
Fails f read = reading.Fails no_memory f read

abbrev pub Gives : {X Y : Type 0} → (X → Y) → Result X BinaryFault → Result Y BinaryFault → Type 0
Gives view result read = reading.Gives no_memory view result read

-- ---- types

-- the fields up to the arc type, which is one of these
unfoldable pub types_at : List ArcType → List ℕ → Result (ArcType × ℕ) BinaryFault
types_at kinds bytes = do
  magic ← number_where (λ n. n == 2125659606) Short BadMagic 4 bytes 0
  fst_type ← named_at (λ text. text) (codes "vector" ∷ []) Short UnknownFstType bytes magic.1
  arc_type_at kinds Short UnknownArcType bytes fst_type.1

-- the arc type of a file
unfoldable pub arc_type_of_bytes : List ℕ → Result ArcType BinaryFault
arc_type_of_bytes bytes = do
  types ← types_at known bytes
  Ok types.0

-- ---- the header

-- a start is below the number of states
abbrev pub is_start : Option ℕ → ℕ → Bool
is_start None states = true
is_start (Some s) states = nat_lt s states

-- the start: -1 for none, or the number of a state
unfoldable pub start_at : List ℕ → ℕ → Result (Option ℕ × ℕ) BinaryFault
start_at bytes at = do
  n ← number_at Short 8 bytes at
  if n.0 == 18446744073709551615 then Ok (None, n.1) else (if nat_lt n.0 most_states then Ok (Some n.0, n.1) else fault BadStart at)

-- The fields from the version to the number of arcs. The start is judged once the number of states is known.
unfoldable pub header_at : List ℕ → ℕ → Result Header BinaryFault
header_at bytes at = do
  flags ← flags_at bytes at
  properties ← number_at Short 8 bytes flags.1
  start ← start_at bytes properties.1
  states ← number_where (λ n. nat_le n most_states) Short BadCount 8 bytes start.1
  arcs ← if is_start start.0 states.0 then number_where (λ n. nat_le n most_arcs) Short BadCount 8 bytes states.1 else fault BadStart properties.1
  Ok (record { flags = flags.0; start = start.0; states = states.0; arcs = arcs.0; counted = states.1; behind = arcs.1 })

-- ---- states and arcs

-- an arc of a machine with so many states
unfoldable pub arc_at : ArcType → ℕ → List ℕ → ℕ → Result (Arc Cost ℕ × ℕ) BinaryFault
arc_at kind states bytes at = do
  ilabel ← label_at Short BadLabel bytes at
  olabel ← label_at Short BadLabel bytes ilabel.1
  weight ← non_zero_weight_at kind Short BadWeight bytes olabel.1
  next ← number_where (λ n. nat_lt n states) Short BadNext 4 bytes weight.1
  Ok (record { ilabel = ilabel.0; olabel = olabel.0; weight = weight.0; next = next.0 }, next.1)

-- so many arcs
abbrev pub arcs_at : ArcType → ℕ → ℕ → List ℕ → ℕ → Result (List (Arc Cost ℕ) × ℕ) BinaryFault
arcs_at kind states n bytes at = many_at (arc_at kind states bytes) n at

-- a state of a machine with so many states and arcs, of which the states before have some
unfoldable pub state_at : ArcType → ℕ → ℕ → ℕ → List ℕ → ℕ → Result (State Cost × ℕ) BinaryFault
state_at kind states arcs before bytes at = do
  final ← file_weight_at kind Short BadWeight bytes at
  count ← number_where (λ n. nat_le (before + n) arcs) Short BadCount 8 bytes final.1
  own ← arcs_at kind states count.0 bytes count.1
  Ok (record { final = final.0; arcs = own.0 }, own.1)

-- so many states
unfoldable pub states_at : ArcType → ℕ → ℕ → ℕ → ℕ → List ℕ → ℕ → Result (List (State Cost) × ℕ) BinaryFault
states_at kind states arcs before zero bytes at = Ok ([], at)
states_at kind states arcs before (suc n) bytes at = do
  first ← state_at kind states arcs before bytes at
  others ← states_at kind states arcs (before + length first.0.arcs) n bytes first.1
  Ok (first.0 ∷ others.0, others.1)

-- the machine of a header and of its states, which stand at an offset and go to the end of the bytes
unfoldable pub machine_at : ArcType → Header → List ℕ → ℕ → Result (Machine Cost) BinaryFault
machine_at kind header bytes at = do
  all ← states_at kind header.states header.arcs 0 header.states bytes at
  if arc_total all.0 == header.arcs
      then (if all.1 == length bytes then Ok (record { start = header.start; states = all.0 }) else fault Extra all.1)
      else fault BadCount header.counted

-- ---- the whole

-- a machine and its tables
pub record TabledMachine : Type 0 where
  pub machine : Machine Cost
  pub sides : Sides

-- those of a header and of what stands after it, to the end of the bytes
unfoldable pub tabled_at : ArcType → Header → List ℕ → Result TabledMachine BinaryFault
tabled_at kind header bytes = do
  sides ← sides_at header.flags bytes header.behind
  machine ← machine_at kind header bytes sides.1
  Ok (record { machine = machine; sides = sides.0 })

-- those of a file whose arc type is this one
unfoldable pub tabled_of_bytes : ArcType → List ℕ → Result TabledMachine BinaryFault
tabled_of_bytes kind bytes = do
  types ← types_at (kind ∷ []) bytes
  header ← header_at bytes types.1
  tabled_at kind header bytes

-- the machine of such a file, without its tables
unfoldable pub machine_of_bytes : ArcType → List ℕ → Result (Machine Cost) BinaryFault
machine_of_bytes kind bytes = do
  tabled ← tabled_of_bytes kind bytes
  Ok tabled.machine
