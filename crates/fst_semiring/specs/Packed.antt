-- Weights as the numbers that stand for them: a number past a limit stands for infinity, and one past the
-- other limit for minus infinity.
use Rattle.std.specs.Prelude.{ℤ, pos, int_lt, Bool, true, false, if◌then◌else◌}
use Rattle.fst_semiring.specs.Cost.{Cost, best, finite, infinite}

-- the value of a truth value: true is the number 0, and false is Zero
abbrev pub cost_of_truth : Bool → Cost
cost_of_truth true = finite (pos 0) (pos 0)
cost_of_truth false = infinite

-- the truth value of a value
abbrev pub truth_of_cost : Cost → Bool
truth_of_cost best = true
truth_of_cost (finite a b) = true
truth_of_cost infinite = false

-- the value of a number, where those above the limit stand for infinity
abbrev pub cost_below : ℤ → ℤ → Cost
cost_below limit n = if int_lt limit n then infinite else finite n (pos 0)

-- the number of a value, where this one stands for infinity
abbrev pub number_of : ℤ → Cost → ℤ
number_of infinity best = pos 0
number_of infinity (finite a b) = a
number_of infinity infinite = infinity

-- the value of a number, where those below the lower limit stand for minus infinity besides
abbrev pub cost_between : ℤ → ℤ → ℤ → Cost
cost_between lower limit n = if int_lt n lower then best else cost_below limit n

-- the number of a value, where these two stand for minus infinity and infinity
abbrev pub number_between : ℤ → ℤ → Cost → ℤ
number_between minus_infinity infinity best = minus_infinity
number_between minus_infinity infinity (finite a b) = a
number_between minus_infinity infinity infinite = infinity

-- the value of two numbers, where a first one above the limit stands for the infinite pair
abbrev pub pair_below : ℤ → ℤ → ℤ → Cost
pair_below limit a b = if int_lt limit a then infinite else finite a b
