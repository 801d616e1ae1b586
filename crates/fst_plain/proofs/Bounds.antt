-- How far the numbers of sums and products go, in multiples of 10 to the 18.
use Rattle.std.proofs.Common.{ℕ, ◌+◌, ◌*◌, ◌≤◌, arith}
use Rattle.fst_semiring.specs.declared.arc_type.ArcType.{ArcType}
use Rattle.fst_semiring.specs.declared.arc_type.ArcType.TheVariants.{Tropical}
use Rattle.fst_semiring.specs.Cost.{Cost, plus}
use Rattle.fst_semiring.specs.Semiring.{sum_of, times}
use Rattle.fst_semiring.proofs.Ranges.{Within-more, Within-plus, Within-times}
use Rattle.fst_plain.specs.Plain.{Fits, SumFits}

-- a bound may be greater
pub Fits-more : (n m : ℕ) (a : Cost) → n ≤ m → Fits n a → Fits m a
Fits-more n m a low h = Within-more (n * 1000000000000000000) (m * 1000000000000000000) a (omega (arith, low)) h

-- the sum of two that fit
pub Fits-sum : (n m : ℕ) (a b : Cost) → n + m ≤ 100000000000000000000 → Fits n a → Fits m b → SumFits a b
Fits-sum n m a b low one two =
    Within-more (n * 1000000000000000000 + m * 1000000000000000000) 100000000000000000000000000000000000000 (sum_of a b) (omega (arith, low))
    (Within-times Tropical (n * 1000000000000000000) (m * 1000000000000000000) a b one two)

-- a product fits the sum of the bounds
pub times-Fits : (kind : ArcType) (n m : ℕ) (a b : Cost) → Fits n a → Fits m b → Fits (n + m) (times kind a b)
times-Fits kind n m a b one two =
    Within-more (n * 1000000000000000000 + m * 1000000000000000000) ((n + m) * 1000000000000000000) (times kind a b) (omega arith)
    (Within-times kind (n * 1000000000000000000) (m * 1000000000000000000) a b one two)

-- the better of two that fit fits
pub plus-Fits : (n : ℕ) (a b : Cost) → Fits n a → Fits n b → Fits n (plus a b)
plus-Fits n a b one two = Within-plus (n * 1000000000000000000) a b one two
