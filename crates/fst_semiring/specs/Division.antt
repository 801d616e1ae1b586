-- Division of weight values, by their arc type. (Mohri 2009, on weighted determinization and weight pushing, which
-- divide by a sum of weights. Min-max has no inverses, and this project has a value divided by a better one be
-- that value.)
use Rattle.std.specs.Prelude.{◌-ℤ◌}
use Rattle.std.specs.declared.cmp.Ordering.TheVariants.{Less, Equal, Greater}
use Rattle.std.specs.declared.cmp.Ordering.{Ordering}
use Rattle.fst_semiring.specs.declared.arc_type.ArcType.{ArcType}
use Rattle.fst_semiring.specs.declared.arc_type.ArcType.TheVariants.{Boolean, Tropical, MinMax, Lexicographic}
use Rattle.fst_semiring.specs.Cost.{Cost, best, finite, infinite, cost_cmp}
use Rattle.fst_semiring.specs.Semiring.{one_of}

-- the difference of each part; infinity stays as it is, and so does a value that nothing is taken from
abbrev pub difference_of : Cost → Cost → Cost
difference_of infinite by = infinite
difference_of best by = best
difference_of (finite a b) infinite = finite a b
difference_of (finite a b) best = finite a b
difference_of (finite a b) (finite c d) = finite (a -ℤ c) (b -ℤ d)

-- Subset division, of a value by a better or equal one that is not Zero: in min-max the value itself, else the
-- difference (true by true is 0 - 0, which is true; Zero by anything is Zero).
abbrev pub quotient : ArcType → Cost → Cost → Cost
quotient Boolean a by = difference_of a by
quotient Tropical a by = difference_of a by
quotient MinMax a by = a
quotient Lexicographic a by = difference_of a by

-- the first value where the order says Equal, else the second
abbrev pub if_tied : Ordering → Cost → Cost → Cost
if_tied Less same other = other
if_tied Equal same other = same
if_tied Greater same other = other

-- Push division: One where the two are equal, else subset division.
abbrev pub push_quotient : ArcType → Cost → Cost → Cost
push_quotient kind a by = if_tied (cost_cmp a by) (one_of kind) (quotient kind a by)
