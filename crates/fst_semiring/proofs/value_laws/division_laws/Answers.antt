use Rattle.fst_semiring.proofs.Dividing.{quotient_undone, quotient_no_better, quotient_only, quotient_zero, push_undone, push_one, push_apart, push_cancels}
use Rattle.fst_semiring.proofs.value_laws.division_laws.Goals as goal

pub returns : goal.returns
returns c = λ kind a by. record {
  undone = quotient_undone kind a by;
  no_better = quotient_no_better kind a by;
  only = λ k h not_zero q. quotient_only kind a by q k h not_zero;
  zero = quotient_zero kind by;
  push_undone = push_undone kind a by;
  push_one = push_one kind a by;
  push_apart = push_apart kind a by;
  push_cancels = push_cancels kind a by;
}
