use Rattle.std.proofs.Common.{refl}
use Rattle.fst_semiring.specs.Cost.{cost_total}
use Rattle.fst_semiring.proofs.Order.{cost_cmp_equal, plus_comm, plus_assoc, plus_picks, plus_infinite, plus_least, plus_unless}
use Rattle.fst_semiring.proofs.value_laws.order_laws.Goals as goal

pub returns-clause-total : goal.returns-clause-total
returns-clause-total c = cost_total

pub returns-clause-plus : goal.returns-clause-plus
returns-clause-plus c = λ a b d. record {
  equal = cost_cmp_equal a b;
  commutative = plus_comm a b;
  associative = plus_assoc a b d;
  picks = plus_picks a b;
  neutral = plus_infinite a;
  least = plus_least a b;
  unless = plus_unless a b;
}

pub returns-clause-keys : goal.returns-clause-keys
returns-clause-keys c = λ a b. refl
