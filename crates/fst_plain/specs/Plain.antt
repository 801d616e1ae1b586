-- Values with numbers of 128 bits, as the plain programs compute them.
use Rattle.std.specs.Prelude.{ℕ, ◌*◌}
use Rattle.fst_semiring.specs.Cost.{Cost, best, finite, infinite}
use Rattle.fst_semiring.specs.Semiring.{sum_of, Within}
use Rattle.fst_plain.specs.declared.cost.PlainCost.{PlainCost}
use Rattle.fst_plain.specs.declared.cost.PlainCost.TheVariants as plain

-- the value of a plain cost
abbrev pub cost_of : PlainCost → Cost
cost_of plain.Best = best
cost_of (plain.Finite a b) = finite a b
cost_of plain.Infinite = infinite

-- each number of the value has absolute value at most n times 10 to the 18
abbrev pub Fits : ℕ → Cost → Type 0
Fits n v = Within (n * 1000000000000000000) v

-- the sums of the numbers of the two have absolute value at most 10 to the 38
abbrev pub SumFits : Cost → Cost → Type 0
SumFits a b = Within 100000000000000000000000000000000000000 (sum_of a b)
