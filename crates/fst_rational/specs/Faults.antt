-- What is said of a fault: of pairs the line, and what is wrong with it; of a machine that is not made, why.
use Rattle.std.specs.Prelude.{ℕ, List, codes}
use Rattle.fst_rational.specs.declared.fault.RationalFault.{RationalFault}
use Rattle.fst_rational.specs.declared.fault.RationalFault.TheVariants as sizes
use Rattle.fst_rational.specs.declared.pairs.PairsFault.{PairsFault}
use Rattle.fst_rational.specs.declared.pairs.PairsFault.TheVariants as pairs

-- the line, from 1; without memory there is none
abbrev pub line_of : PairsFault → ℕ
line_of (pairs.BadColumns line) = line
line_of (pairs.BadLabel line) = line
line_of (pairs.Duplicate line) = line
line_of pairs.Memory = 0

abbrev pub reason_of : PairsFault → List ℕ
reason_of (pairs.BadColumns line) = codes "wrong number of columns"
reason_of (pairs.BadLabel line) = codes "bad label"
reason_of (pairs.Duplicate line) = codes "label given twice"
reason_of pairs.Memory = codes "out of memory"

-- why the machine is not made
abbrev pub size_text : RationalFault → List ℕ
size_text sizes.TooManyStates = codes "too many states"
size_text sizes.TooManyArcs = codes "too many arcs"
size_text sizes.Memory = codes "out of memory"
