-- Machines and codices with their arc types, and what the contents of files stand for.
use Rattle.std.specs.Prelude.{ℕ, List, Result, Ok}
use Rattle.fst_fields.specs.Reading.{◌>>=◌}
use Rattle.fst_semiring.specs.declared.arc_type.ArcType.{ArcType}
use Rattle.fst_semiring.specs.declared.arc_type.ArcType.TheVariants as kinds
use Rattle.fst_semiring.specs.Cost.{Cost}
use Rattle.fst_machine.specs.Machine.{Machine, valued}
use Rattle.fst_binary.specs.Reading.{BinaryFault, arc_type_of_bytes, tabled_of_bytes}
use Rattle.fst_binary.specs.Sides.{Sides}
use Rattle.fst_codex.specs.Reading.{CodexFault, codex_arc_type_of_bytes, codex_of_bytes}
use Rattle.fst_codex.specs.Table.{Table, valued_table}
use Rattle.fst_text.specs.Grammar.{machine_of_text}
use Rattle.fst_text.specs.Options.{Options}
use Rattle.fst_text.specs.declared.fault.TextFault.{TextFault}
use Rattle.fst_any.specs.declared.any.AnyFst.{AnyFst}
use Rattle.fst_any.specs.declared.any.AnyFst.TheVariants as machines
use Rattle.fst_any.specs.declared.any.AnyTabled.{AnyTabled}
use Rattle.fst_any.specs.declared.any.AnyCodex.{AnyCodex}
use Rattle.fst_any.specs.declared.any.AnyCodex.TheVariants as codices

-- a machine with its arc type
pub record Typed : Type 0 where
  pub kind : ArcType
  pub machine : Machine Cost

-- a codex with its arc type
pub record TypedCodex : Type 0 where
  pub kind : ArcType
  pub table : Table Cost

-- a machine with its arc type and the symbol tables that it carries
pub record TypedTabled : Type 0 where
  pub typed : Typed
  pub sides : Sides

-- what is held
abbrev pub typed : AnyFst → Typed
typed (machines.Boolean m) = record { kind = kinds.Boolean; machine = valued (λ w. w) m }
typed (machines.Tropical m) = record { kind = kinds.Tropical; machine = valued (λ w. w) m }
typed (machines.MinMax m) = record { kind = kinds.MinMax; machine = valued (λ w. w) m }
typed (machines.Lexicographic m) = record { kind = kinds.Lexicographic; machine = valued (λ w. w) m }

abbrev pub typed_tabled : AnyTabled → TypedTabled
typed_tabled t = record { typed = typed t.fst; sides = record { isymbols = t.isymbols; osymbols = t.osymbols } }

abbrev pub typed_codex : AnyCodex → TypedCodex
typed_codex (codices.Boolean c) = record { kind = kinds.Boolean; table = valued_table (λ w. w) c }
typed_codex (codices.Tropical c) = record { kind = kinds.Tropical; table = valued_table (λ w. w) c }
typed_codex (codices.MinMax c) = record { kind = kinds.MinMax; table = valued_table (λ w. w) c }
typed_codex (codices.Lexicographic c) = record { kind = kinds.Lexicographic; table = valued_table (λ w. w) c }

-- the machine of a file in the binary form, whose arc type the file names, and its tables, or the first fault of its form
unfoldable pub machine_of_file : List ℕ → Result TypedTabled BinaryFault
machine_of_file bytes = do
  kind ← arc_type_of_bytes bytes
  tabled ← tabled_of_bytes kind bytes
  Ok (record { typed = record { kind = kind; machine = tabled.machine }; sides = tabled.sides })

-- the codex of a file, whose arc type the file names, or the first fault of its form
unfoldable pub codex_of_file : List ℕ → Result TypedCodex CodexFault
codex_of_file bytes = do
  kind ← codex_arc_type_of_bytes bytes
  table ← codex_of_bytes kind bytes
  Ok (record { kind = kind; table = table })

-- the machine of this arc type that a text stands for, or its first fault
unfoldable pub typed_machine_of_text : ArcType → Options → List ℕ → Result Typed TextFault
typed_machine_of_text kind options bytes = do
  machine ← machine_of_text kind options bytes
  Ok (record { kind = kind; machine = machine })
