-- The binary form of a machine and its symbol tables: one field after the other, each number with its least byte first.
-- (OpenFst, fst.h, "FstHeader", and vector-fst.h, "VectorFst": a header, then the symbol tables, then each state with its
-- final weight, its number of arcs and its arcs. The tagged weight fields and the form of a table are this project's own.)
use Rattle.std.specs.Prelude.{◌≡◌, ℕ, ℤ, pos, neg_ℤ, List, ◌++◌, length, Option, Some, None, All, codes}
use Rattle.std.specs.List.{flat_map}
use Rattle.fst_semiring.specs.declared.arc_type.ArcType.{ArcType}
use Rattle.fst_semiring.specs.Cost.{Cost}
use Rattle.fst_bytes.specs.Spelling.{HasField, long, signed, text, weight_field, word}
use Rattle.fst_machine.specs.Machine.{Arc, State, Machine, IsMachine, arc_total}
use Rattle.fst_binary.specs.Sides.{HasSides, Sides, flags_of, neither, side_fields, version_of}
pub use Rattle.fst_semiring.specs.Names.{name_of}

-- an arc: its labels, its weight and its next state
abbrev pub arc_fields : ArcType → Arc Cost ℕ → List ℕ
arc_fields kind a = word a.ilabel ++ word a.olabel ++ weight_field kind a.weight ++ word a.next

-- a state: its final weight, the number of its arcs, and these
abbrev pub state_fields : ArcType → State Cost → List ℕ
state_fields kind s = weight_field kind s.final ++ long (length s.arcs) ++ flat_map (arc_fields kind) s.arcs

-- the start as a number, -1 for none
abbrev pub start_number : Option ℕ → ℤ
start_number None = neg_ℤ (pos 1)
start_number (Some s) = pos s

-- the magic number, and the names of the fst type and of the arc type
abbrev pub type_fields : ArcType → List ℕ
type_fields kind = word 2125659606 ++ text (codes "vector") ++ text (name_of kind)

-- the start, and how many states and arcs there are
abbrev pub count_fields : Machine Cost → List ℕ
count_fields m = signed (start_number m.start) ++ long (length m.states) ++ long (arc_total m.states)

-- all that stands before the states of a machine with this start, so many states and arcs, and these tables, as it is
-- written
abbrev pub header_fields : ArcType → Sides → Option ℕ → ℕ → ℕ → List ℕ
header_fields kind s start states arcs =
    type_fields kind ++ word (version_of s.isymbols s.osymbols) ++ word (flags_of s.isymbols s.osymbols) ++ long 3
    ++ (signed (start_number start) ++ long states ++ long arcs) ++ side_fields s.isymbols ++ side_fields s.osymbols

-- A machine and its tables with these eight bytes as its properties: its types, the version and the flags, its counts, the
-- tables that are there, its states.
abbrev pub tabled_with : List ℕ → ArcType → Machine Cost → Sides → List ℕ
tabled_with properties kind m s =
    type_fields kind ++ word (version_of s.isymbols s.osymbols) ++ word (flags_of s.isymbols s.osymbols) ++ properties
    ++ count_fields m ++ (side_fields s.isymbols ++ (side_fields s.osymbols ++ flat_map (state_fields kind) m.states))

-- a machine and its tables with the properties 3, as it is written
abbrev pub tabled_spelling : ArcType → Machine Cost → Sides → List ℕ
tabled_spelling kind m s = tabled_with (long 3) kind m s

-- a machine without tables, as it is written
abbrev pub spelling : ArcType → Machine Cost → List ℕ
spelling kind m = tabled_spelling kind m neither

-- the bytes are a machine of an arc type and its tables with any eight bytes as its properties
abbrev pub TabledSpells : ArcType → List ℕ → Machine Cost → Sides → Type 0
TabledSpells kind bytes m s = (properties : List ℕ) × (length properties ≡ 8) × (bytes ≡ tabled_with properties kind m s)

-- and with any tables
abbrev pub Spells : ArcType → List ℕ → Machine Cost → Type 0
Spells kind bytes m = (s : Sides) × HasSides s × TabledSpells kind bytes m s

-- a machine that has a spelling: each weight has a weight field
pub record HasSpelling (kind : ArcType) (m : Machine Cost) : Type 0 where
  pub machine : IsMachine (λ v. v) m
  pub finals : All (λ s. HasField kind s.final) m.states
  pub weights : All (λ s. All (λ a. HasField kind a.weight) s.arcs) m.states

-- each weight of a state has a weight field
abbrev pub HasFields : {V : Type 0} → (V → Cost) → ArcType → State V → Type 0
HasFields value kind s = HasField kind (value s.final) × All (λ a. HasField kind (value a.weight)) s.arcs
