-- The printed form of a weight by its key, which has the numbers of a wide weight in full.
use Rattle.std.specs.Prelude.{ℕ, zero, suc, ℤ, List, ◌++◌, ◌==◌, codes, if◌then◌else◌}
use Rattle.std.specs.Fmt.{signed_decimal}
use Rattle.fst_semiring.specs.declared.arc_type.ArcType.{ArcType}
use Rattle.fst_semiring.specs.declared.arc_type.ArcType.TheVariants.{Boolean, Tropical, MinMax, Lexicographic}
use Rattle.fst_semiring.specs.declared.key.Key.{Key}

-- a number of a weight of this class, or the infinity that stands in its place
abbrev pub part_text : ℕ → ℤ → List ℕ
part_text zero number = codes "-Infinity"
part_text (suc zero) number = signed_decimal number
part_text (suc (suc more)) number = codes "Infinity"

abbrev pub key_text : ArcType → Key → List ℕ
key_text Boolean key = if key.class == 2 then codes "0" else codes "1"
key_text Tropical key = part_text key.class key.first
key_text MinMax key = part_text key.class key.first
key_text Lexicographic key = part_text key.class key.first ++ codes "," ++ part_text key.class key.second
