-- Reading fields at an offset. What is read is a value and the offset after it, or a fault. The kinds of fault are
-- those of the form that is read: `short` is the kind for a field that is not whole, and `wrong` that of the field.
use Rattle.std.specs.Prelude.{ℕ, zero, suc, ◌+◌, ◌*◌, ℤ, pos, neg_ℤ, List, [], ◌∷◌, ◌++◌, length, take, drop}
use Rattle.std.specs.Prelude.{Bool, true, false, ◌&&◌, Result, Ok, Err, nat_lt, nat_le, int_le, ◌==◌, if◌then◌else◌, bytes_eq, slice_index}
use Rattle.std.specs.Option.{ok_or}
use Rattle.std.specs.Result.{result_map_both}
use Rattle.std.specs.List.{find, list_any, list_all}
use Rattle.std.specs.Int.{w64, cast_signed}
use Rattle.byteorder.specs.Endian.{little_number}
use Rattle.fst_fields.specs.Decimal.{greatest_label}
use Rattle.fst_fields.specs.Reading.{◌>>=◌}
use Rattle.fst_semiring.specs.declared.arc_type.ArcType.{ArcType}
use Rattle.fst_semiring.specs.declared.arc_type.ArcType.TheVariants.{Boolean, Tropical, MinMax, Lexicographic}
use Rattle.fst_semiring.specs.Cost.{Cost, best, finite, infinite, is_infinite}
use Rattle.fst_semiring.specs.Names.{name_of}
use Rattle.fst_bytes.specs.declared.fault.FileFault.{FileFault}
use Rattle.fst_bytes.specs.declared.fault.WeightFieldFault.{WeightFieldFault}
use Rattle.fst_bytes.specs.declared.fault.WeightFieldFault.TheVariants.{Short, BadWeight}

-- a fault of this kind at this offset
abbrev pub fault : {A K : Type 0} → K → ℕ → Result A (FileFault K)
fault kind at = Err (record { offset = at; kind = kind })

-- ---- numbers

-- A number of so many bytes. A field that is not whole is short at the end of the bytes.
unfoldable pub number_at : {K : Type 0} → K → ℕ → List ℕ → ℕ → Result (ℕ × ℕ) (FileFault K)
number_at short width bytes at =
    if nat_lt (length bytes) (at + width) then fault short (length bytes) else Ok (little_number width (drop at bytes), at + width)

-- a number that passes a test, else a fault at its first byte
unfoldable pub number_where : {K : Type 0} → (ℕ → Bool) → K → K → ℕ → List ℕ → ℕ → Result (ℕ × ℕ) (FileFault K)
number_where test short wrong width bytes at = do
  n ← number_at short width bytes at
  if test n.0 then Ok n else fault wrong at

-- a label
abbrev pub label_at : {K : Type 0} → K → K → List ℕ → ℕ → Result (ℕ × ℕ) (FileFault K)
label_at short wrong bytes at = number_where (λ n. nat_le n greatest_label) short wrong 4 bytes at

-- ---- names

-- so many bytes
unfoldable pub part_at : {K : Type 0} → K → ℕ → List ℕ → ℕ → Result (List ℕ × ℕ) (FileFault K)
part_at short count bytes at =
    if nat_lt (length bytes) (at + count) then fault short (length bytes) else Ok (take count (drop at bytes), at + count)

-- One of these things by its name, which stands after its length. A length that none of the names has is a fault
-- before the text is read. A fault of the name is one of the whole field.
unfoldable pub named_at : {A K : Type 0} → (A → List ℕ) → List A → K → K → List ℕ → ℕ → Result (A × ℕ) (FileFault K)
named_at name known short wrong bytes at = do
  n ← number_where (λ n. list_any (λ x. length (name x) == n) known) short wrong 4 bytes at
  part ← part_at short n.0 bytes n.1
  found ← ok_or (find (λ x. bytes_eq (name x) part.0) known) (record { offset = at; kind = wrong })
  Ok (found, part.1)

-- one of these arc types
abbrev pub arc_type_at : {K : Type 0} → List ArcType → K → K → List ℕ → ℕ → Result (ArcType × ℕ) (FileFault K)
arc_type_at kinds short wrong bytes at = named_at name_of kinds short wrong bytes at

-- ---- weight fields

-- how many numbers stand after the tag 1
abbrev pub number_count : ArcType → ℕ
number_count Boolean = 0
number_count Tropical = 1
number_count MinMax = 1
number_count Lexicographic = 2

-- the number with a sign in the eight bytes at an offset
unfoldable pub integer_at : List ℕ → ℕ → ℤ
integer_at bytes at = cast_signed w64 (little_number 8 (drop at bytes))

-- so many of these, one after the other
abbrev pub integers_at : ℕ → List ℕ → ℕ → List ℤ
integers_at zero bytes at = []
integers_at (suc n) bytes at = integer_at bytes at ∷ integers_at n bytes (at + 8)

-- the value with these numbers, and 0 for those that are not there
abbrev pub cost_of_numbers : List ℤ → Cost
cost_of_numbers [] = finite (pos 0) (pos 0)
cost_of_numbers (a ∷ []) = finite a (pos 0)
cost_of_numbers (a ∷ b ∷ rest) = finite a b

-- a number of a weight has absolute value at most 10 to the 18
abbrev pub is_small : ℤ → Bool
is_small n = int_le (neg_ℤ (pos 1000000000000000000)) n && int_le n (pos 1000000000000000000)

-- only min-max has the tag 2
abbrev pub has_best : ArcType → Bool
has_best Boolean = false
has_best Tropical = false
has_best MinMax = true
has_best Lexicographic = false

-- the numbers after the tag 1, which are judged once all of them are there
unfoldable pub numbers_at : ArcType → List ℕ → ℕ → Result (Cost × ℕ) WeightFieldFault
numbers_at kind bytes at =
    if nat_lt (length bytes) (at + 8 * number_count kind) then Err Short
    else (if list_all is_small (integers_at (number_count kind) bytes at)
    then Ok (cost_of_numbers (integers_at (number_count kind) bytes at), at + 8 * number_count kind)
    else Err BadWeight)

-- a weight field: a tag and what stands after it
unfoldable pub weight_at : ArcType → List ℕ → ℕ → Result (Cost × ℕ) WeightFieldFault
weight_at kind bytes at =
    if nat_le (length bytes) at then Err Short
    else (if slice_index bytes at == 0 then Ok (infinite, at + 1)
    else (if slice_index bytes at == 1 then numbers_at kind bytes (at + 1)
    else (if slice_index bytes at == 2 && has_best kind then Ok (best, at + 1)
    else Err BadWeight)))

-- the fault of a weight field in a file
abbrev pub field_fault : {K : Type 0} → K → K → List ℕ → ℕ → WeightFieldFault → FileFault K
field_fault short wrong bytes at Short = record { offset = length bytes; kind = short }
field_fault short wrong bytes at BadWeight = record { offset = at; kind = wrong }

-- a weight in a file
unfoldable pub file_weight_at : {K : Type 0} → ArcType → K → K → List ℕ → ℕ → Result (Cost × ℕ) (FileFault K)
file_weight_at kind short wrong bytes at = result_map_both (λ x. x) (field_fault short wrong bytes at) (weight_at kind bytes at)

-- a weight in a file that is not Zero
unfoldable pub non_zero_weight_at : {K : Type 0} → ArcType → K → K → List ℕ → ℕ → Result (Cost × ℕ) (FileFault K)
non_zero_weight_at kind short wrong bytes at = do
  weight ← file_weight_at kind short wrong bytes at
  if is_infinite weight.0 then fault wrong at else Ok weight

-- ---- one after the other

-- so many things, each read where the one before it ends
unfoldable pub many_at : {X E : Type 0} → (ℕ → Result (X × ℕ) E) → ℕ → ℕ → Result (List X × ℕ) E
many_at read zero at = Ok ([], at)
many_at read (suc n) at = do
  first ← read at
  others ← many_at read n first.1
  Ok (first.0 ∷ others.0, others.1)

-- what was read before, and what is still read
abbrev pub with_front : {X E : Type 0} → List X → Result (List X × ℕ) E → Result (List X × ℕ) E
with_front front read = read >>= λ x. Ok (front ++ x.0, x.1)
