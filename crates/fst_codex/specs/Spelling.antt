-- The file form of a codex: one field after the other, each number with its least byte first. (That a codex has a
-- file is OpenFst's, "Encode"; the form is this project's own.)
use Rattle.std.specs.Prelude.{ℕ, Bool, true, false, List, [], ◌∷◌, ◌++◌, length, All, codes}
use Rattle.std.specs.List.{flat_map}
use Rattle.fst_semiring.specs.declared.arc_type.ArcType.{ArcType}
use Rattle.fst_semiring.specs.Cost.{Cost}
use Rattle.fst_semiring.specs.Names.{name_of}
use Rattle.fst_bytes.specs.Spelling.{HasField, long, text, weight_field, word}
use Rattle.fst_codex.specs.Table.{Entry, Table, IsTable}

-- the bytes at the front of every codex
abbrev pub magic : List ℕ
magic = codes "FSTCODEX"

-- whether weights stand in the entries
abbrev pub flag : Bool → List ℕ
flag false = 0 ∷ []
flag true = 1 ∷ []

-- a weight, where weights stand in the entries
abbrev pub weight_part : ArcType → Bool → Cost → List ℕ
weight_part kind false v = []
weight_part kind true v = weight_field kind v

-- an entry: its labels, and its weight
abbrev pub entry_fields : ArcType → Bool → Entry Cost → List ℕ
entry_fields kind weights e = word e.ilabel ++ word e.olabel ++ weight_part kind weights e.weight

-- the fields up to the arc type, and those before the entries
abbrev pub codex_types : ArcType → List ℕ
codex_types kind = magic ++ text (name_of kind)

abbrev pub codex_heading : ArcType → Table Cost → List ℕ
codex_heading kind t = codex_types kind ++ flag t.weights ++ long (length t.entries)

-- a codex: the magic bytes, the arc type, the flag, the number of entries, the entries
abbrev pub codex_spelling : ArcType → Table Cost → List ℕ
codex_spelling kind t = codex_heading kind t ++ flat_map (entry_fields kind t.weights) t.entries

-- a codex that has a spelling: each weight has a weight field
pub record HasCodexSpelling (kind : ArcType) (t : Table Cost) : Type 0 where
  pub table : IsTable kind (λ v. v) t
  pub weights : All (λ e. HasField kind e.weight) t.entries
