-- Keys of weights: equal keys are those of one value.
use Rattle.std.proofs.Common.{◌≡◌, Ordering, Equal, sym, ap, ◌∙◌}
use Rattle.std.specs.Ordering.{nat_cmp, int_cmp, ordering_then}
use Rattle.fst_semiring.specs.Cost.{Cost, cost_cmp}
use Rattle.fst_semiring.proofs.Order.{cost_cmp_equal, cost_cmp_same}
use Rattle.fst_minimize.specs.declared.weights.WeightKey.{WeightKey}
use Rattle.fst_minimize.specs.Saying.{weight_key}

-- values with one key are one
pub key_once : (v w : Cost) → weight_key v ≡ weight_key w → v ≡ w
key_once v w e = cost_cmp_equal v w (by_key e)
  where
    open_cmp : WeightKey → WeightKey → Ordering
    open_cmp a b = ordering_then (nat_cmp a.class b.class) (ordering_then (int_cmp a.first b.first) (int_cmp a.second b.second))

    by_key : weight_key v ≡ weight_key w → cost_cmp v w ≡ Equal
    by_key e = ap (open_cmp (weight_key v)) (sym e) ∙ cost_cmp_same v
