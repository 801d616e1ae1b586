-- How far the numbers of pushed weights go.
use Rattle.std.proofs.Common.{◌≡◌, ◌+◌, sym, subst, arith}
use Rattle.fst_semiring.specs.Cost.{Cost}
use Rattle.fst_semiring.specs.declared.arc_type.ArcType.{ArcType}
use Rattle.fst_semiring.specs.Semiring.{times, InRange, IsWide, Within}
use Rattle.fst_semiring.specs.Division.{push_quotient}
use Rattle.fst_semiring.proofs.Ranges.{Within-more, Within-times, Within-push}
use Rattle.fst_distance.specs.Values.{most_distance, most_pushed}

-- the product of a weight and a distance
pub product_within : (kind : ArcType) (w d : Cost) → InRange w → Within most_distance d → Within (1000000000000000000 + most_distance) (times kind w d)
product_within kind w d one two = Within-times kind 1000000000000000000 most_distance w d one two

pub product_wide : (kind : ArcType) (w d v : Cost) → v ≡ times kind w d → InRange w → Within most_distance d → IsWide v
product_wide kind w d v same one two = subst IsWide (sym same) (Within-more (1000000000000000000 + most_distance) 1329227995784915872903807060280344575 (times kind w d) (omega arith) (product_within kind w d one two))

pub distance_wide : (d : Cost) → Within most_distance d → IsWide d
distance_wide d h = Within-more most_distance 1329227995784915872903807060280344575 d (omega arith) h

pub pushed_within : (kind : ArcType) (w d own v : Cost) → v ≡ push_quotient kind (times kind w d) own → InRange w → Within most_distance d → Within most_distance own → Within most_pushed v
pushed_within kind w d own v same one two three =
    subst (Within most_pushed) (sym same)
    (Within-more (1000000000000000000 + most_distance + most_distance) most_pushed (push_quotient kind (times kind w d) own) (omega arith)
    (Within-push kind (1000000000000000000 + most_distance) most_distance (times kind w d) own (product_within kind w d one two) three))

-- a final weight divided by a distance
pub final_within : (kind : ArcType) (w own v : Cost) → v ≡ push_quotient kind w own → InRange w → Within most_distance own → Within most_pushed v
final_within kind w own v same one two =
    subst (Within most_pushed) (sym same)
    (Within-more (1000000000000000000 + most_distance) most_pushed (push_quotient kind w own) (omega arith) (Within-push kind 1000000000000000000 most_distance w own one two))

pub weight_wide : (w v : Cost) → v ≡ w → InRange w → IsWide v
weight_wide w v same h = subst IsWide (sym same) (Within-more 1000000000000000000 1329227995784915872903807060280344575 w (omega arith) h)

-- a pushed weight can be computed with
pub pushed_wide : (v : Cost) → Within most_pushed v → IsWide v
pushed_wide v h = Within-more most_pushed 1329227995784915872903807060280344575 v (omega arith) h
