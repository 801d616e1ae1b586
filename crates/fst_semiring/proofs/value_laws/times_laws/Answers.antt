use Rattle.fst_semiring.proofs.Laws.{times_comm, times_assoc, one_times, zero_times, times_only_zero, times-plus, times_keeps, times_four}
use Rattle.fst_semiring.proofs.Cancelling.{times_cancels, times_reflects, one_best}
use Rattle.fst_semiring.proofs.value_laws.times_laws.Goals as goal

pub returns-clause-times : goal.returns-clause-times
returns-clause-times c = λ kind a b d e. record {
  commutative = times_comm kind a b;
  associative = times_assoc kind a b d;
  neutral = one_times kind a;
  zero = zero_times kind a;
  only_zero = times_only_zero kind a b;
  distributes = times-plus kind a b d;
  keeps = times_keeps kind a b d;
  regroups = times_four kind a b d e;
}

pub returns-clause-cancels : goal.returns-clause-cancels
returns-clause-cancels c = λ kind a b d. record {
  cancelled = times_cancels kind a b d;
  reflected = times_reflects kind a b d;
  one_best = one_best kind a;
}
