-- The four semirings over weight values, by their arc type. (Mohri 2009, section 2; OpenFst Quick Tour,
-- "FST Weights". That the numbers are whole, and the four arc types, are this project's own profile.)
use Rattle.std.specs.Prelude.{◌≡◌, ℕ, ℤ, pos, neg_ℤ, ◌+ℤ◌, ◌≤ℤ◌, Bool, true, false, Option, None, Some}
use Rattle.fst_semiring.specs.declared.arc_type.ArcType.{ArcType}
use Rattle.fst_semiring.specs.declared.arc_type.ArcType.TheVariants.{Boolean, Tropical, MinMax, Lexicographic}
use Rattle.fst_semiring.specs.Cost.{Cost, best, finite, infinite, worse}

-- One: the best value in min-max, else the number 0, which also stands for true. (Zero is `infinite`.)
abbrev pub one_of : ArcType → Cost
one_of Boolean = finite (pos 0) (pos 0)
one_of Tropical = finite (pos 0) (pos 0)
one_of MinMax = best
one_of Lexicographic = finite (pos 0) (pos 0)

-- the sum of each part, where infinity takes all and the best value is minus infinity
abbrev pub sum_of : Cost → Cost → Cost
sum_of infinite b = infinite
sum_of best infinite = infinite
sum_of best best = best
sum_of best (finite c d) = best
sum_of (finite a b) infinite = infinite
sum_of (finite a b) best = best
sum_of (finite a b) (finite c d) = finite (a +ℤ c) (b +ℤ d)

-- Times: the worse value in min-max, else the sum (true and true is 0 + 0, which is true)
abbrev pub times : ArcType → Cost → Cost → Cost
times Boolean a b = sum_of a b
times Tropical a b = sum_of a b
times MinMax a b = worse a b
times Lexicographic a b = sum_of a b

-- whether a factor that is not Zero can be cancelled: in each arc type but min-max
abbrev pub cancels : ArcType → Bool
cancels Boolean = true
cancels Tropical = true
cancels MinMax = false
cancels Lexicographic = true

-- the values that an arc type has
abbrev pub IsCost : ArcType → Cost → Type 0
IsCost kind infinite = Unit {0}
IsCost Boolean best = ⊥
IsCost Tropical best = ⊥
IsCost MinMax best = Unit {0}
IsCost Lexicographic best = ⊥
IsCost Boolean (finite a b) = (a ≡ pos 0) × (b ≡ pos 0)
IsCost Tropical (finite a b) = b ≡ pos 0
IsCost MinMax (finite a b) = b ≡ pos 0
IsCost Lexicographic (finite a b) = Unit {0}

-- the number of a value that is a single number, which true is not, nor a pair
abbrev pub single_number : ArcType → Cost → Option ℤ
single_number kind infinite = None
single_number kind best = None
single_number Boolean (finite a b) = None
single_number Tropical (finite a b) = Some a
single_number MinMax (finite a b) = Some a
single_number Lexicographic (finite a b) = None

-- the number has absolute value at most n
abbrev pub IsWithin : ℕ → ℤ → Type 0
IsWithin n a = (neg_ℤ (pos n) ≤ℤ a) × (a ≤ℤ pos n)

-- each number of the value has absolute value at most n
abbrev pub Within : ℕ → Cost → Type 0
Within n best = Unit {0}
Within n (finite a b) = IsWithin n a × IsWithin n b
Within n infinite = Unit {0}

-- a number of a weight in memory and in a file has absolute value at most 10 to the 18
abbrev pub IsSmall : ℤ → Type 0
IsSmall n = IsWithin 1000000000000000000 n

-- each number of the value is small
abbrev pub InRange : Cost → Type 0
InRange v = Within 1000000000000000000 v

-- each number of the value has absolute value below 2 to the 120, so that it can be computed with
abbrev pub IsWide : Cost → Type 0
IsWide v = Within 1329227995784915872903807060280344575 v
