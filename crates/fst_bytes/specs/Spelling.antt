-- How fields are written, each number with its least byte first. (The tagged weight fields are this project's own.)
use Rattle.std.specs.Prelude.{ℕ, ℤ, List, [], ◌∷◌, ◌++◌, length}
use Rattle.std.specs.List.{flat_map}
use Rattle.std.specs.Int.{w64, cast_unsigned}
use Rattle.byteorder.specs.Endian.{little_bytes}
use Rattle.fst_semiring.specs.declared.arc_type.ArcType.{ArcType}
use Rattle.fst_semiring.specs.declared.arc_type.ArcType.TheVariants.{Boolean, Tropical, MinMax, Lexicographic}
use Rattle.fst_semiring.specs.Cost.{Cost, best, finite, infinite}
use Rattle.fst_semiring.specs.Semiring.{IsCost, InRange}

-- a number in four bytes
unfoldable pub word : ℕ → List ℕ
word n = little_bytes 4 n

-- a number in eight bytes
unfoldable pub long : ℕ → List ℕ
long n = little_bytes 8 n

-- a number with a sign in eight bytes, in two's complement
unfoldable pub signed : ℤ → List ℕ
signed n = little_bytes 8 (cast_unsigned w64 n)

-- a text, after its length
abbrev pub text : List ℕ → List ℕ
text bytes = word (length bytes) ++ bytes

-- the numbers that stand in a weight field: true has none, a pair both
abbrev pub numbers_of : ArcType → ℤ → ℤ → List ℤ
numbers_of Boolean a b = []
numbers_of Tropical a b = a ∷ []
numbers_of MinMax a b = a ∷ []
numbers_of Lexicographic a b = a ∷ b ∷ []

-- a weight: the tag 0 for Zero, 1 in front of numbers, 2 for the best value, which is the One of min-max
abbrev pub weight_field : ArcType → Cost → List ℕ
weight_field kind infinite = 0 ∷ []
weight_field kind (finite a b) = 1 ∷ flat_map signed (numbers_of kind a b)
weight_field kind best = 2 ∷ []

-- a value that has a weight field
abbrev pub HasField : ArcType → Cost → Type 0
HasField kind v = IsCost kind v × InRange v
