-- A codex as plain data. (OpenFst manual, "Encode": the table by which labels, and with them weights, are turned
-- into numbers and back.)
use Rattle.std.specs.Prelude.{◌≡◌, ◌≢◌, ℕ, ◌≤◌, Bool, false, List, length, map, All}
use Rattle.fst_semiring.specs.Cost.{Cost, infinite}
use Rattle.fst_semiring.specs.declared.arc_type.ArcType.{ArcType}
use Rattle.fst_semiring.specs.Semiring.{one_of}
use Rattle.fst_machine.specs.Machine.{greatest_label}

-- what a number stands for: the labels of an arc, and its weight
pub record Entry (V : Type 0) : Type 0 where
  pub ilabel : ℕ
  pub olabel : ℕ
  pub weight : V

-- whether numbers stand for weights too, and the entries in order
pub record Table (V : Type 0) : Type 0 where
  pub weights : Bool
  pub entries : List (Entry V)

-- the greatest number of entries
abbrev pub most_entries : ℕ
most_entries = 33554432

-- the labels of an entry are in range, its weight is not Zero, and it is One where numbers stand for labels alone
pub record IsEntry {V : Type 0} (kind : ArcType) (value : V → Cost) (weights : Bool) (e : Entry V) : Type 0 where
  pub ilabel : e.ilabel ≤ greatest_label
  pub olabel : e.olabel ≤ greatest_label
  pub weight : value e.weight ≢ infinite
  pub bare : weights ≡ false → value e.weight ≡ one_of kind

-- what holds of every codex
pub record IsTable {V : Type 0} (kind : ArcType) (value : V → Cost) (t : Table V) : Type 0 where
  pub few : length t.entries ≤ most_entries
  pub good : All (IsEntry kind value t.weights) t.entries

-- the same with each weight as its value
abbrev pub valued_entry : {V : Type 0} → (V → Cost) → Entry V → Entry Cost
valued_entry value e = record { ilabel = e.ilabel; olabel = e.olabel; weight = value e.weight }

abbrev pub valued_table : {V : Type 0} → (V → Cost) → Table V → Table Cost
valued_table value t = record { weights = t.weights; entries = map (valued_entry value) t.entries }
