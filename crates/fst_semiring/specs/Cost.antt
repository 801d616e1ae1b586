-- The value of a weight, whatever its arc type, and the order of all values. (Mohri, Weighted Automata
-- Algorithms, 2009, section 2: in a semiring with the path property, Plus is the better of two values.)
use Rattle.std.specs.Prelude.{ℕ, ℤ, pos, Bool, true, false}
use Rattle.std.specs.declared.cmp.Ordering.TheVariants.{Less, Equal, Greater}
use Rattle.std.specs.declared.cmp.Ordering.{Ordering}
use Rattle.std.specs.Ordering.{nat_cmp, int_cmp, ordering_then}
use Rattle.std.specs.Cmp.{IsTotalOrder}
use Rattle.std.proofs.lemmas.Cmp.{then_total, on_total, nat_cmp_total, int_cmp_total}

-- The best value of all, which is minus infinity and the One of min-max; a pair of whole numbers; and
-- the worst value, infinity, which is the Zero of every arc type. A single number n is the pair (n, 0).
pub data Cost : Type 0 where
  best : Cost
  finite : ℤ → ℤ → Cost
  infinite : Cost

-- 0 for the best value, 1 for a pair of numbers, 2 for infinity
abbrev pub class_of : Cost → ℕ
class_of best = 0
class_of (finite a b) = 1
class_of infinite = 2

-- the first number, 0 where there is none
abbrev pub first_of : Cost → ℤ
first_of best = pos 0
first_of (finite a b) = a
first_of infinite = pos 0

-- the second number, 0 where there is none
abbrev pub second_of : Cost → ℤ
second_of best = pos 0
second_of (finite a b) = b
second_of infinite = pos 0

-- the natural order: by class, then by the first number, then by the second; Less is better
abbrev pub cost_cmp : Cost → Cost → Ordering
cost_cmp a b = ordering_then (nat_cmp (class_of a) (class_of b)) (ordering_then (int_cmp (first_of a) (first_of b)) (int_cmp (second_of a) (second_of b)))

-- it is a total order
pub cost_total : IsTotalOrder cost_cmp
cost_total = then_total (on_total class_of nat_cmp_total) (then_total (on_total first_of int_cmp_total) (on_total second_of int_cmp_total))

-- the first value where the order says Less or Equal, else the second
abbrev pub ranked : Ordering → Cost → Cost → Cost
ranked Less a b = a
ranked Equal a b = a
ranked Greater a b = b

-- Plus of every arc type: the better of two values
abbrev pub plus : Cost → Cost → Cost
plus a b = ranked (cost_cmp a b) a b

-- the worse of two values
abbrev pub worse : Cost → Cost → Cost
worse a b = ranked (cost_cmp a b) b a

-- whether a value is Zero, which is infinity for every arc type
abbrev pub is_infinite : Cost → Bool
is_infinite best = false
is_infinite (finite a b) = false
is_infinite infinite = true
