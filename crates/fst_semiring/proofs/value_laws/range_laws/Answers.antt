use Rattle.fst_semiring.proofs.OfKind.{IsCost-one, IsCost-plus, IsCost-times, IsCost-quotient, IsCost-push}
use Rattle.fst_semiring.proofs.Ranges.{Within-more, Within-one, Within-plus, Within-times, Within-quotient, Within-push}
use Rattle.fst_semiring.proofs.value_laws.range_laws.Goals as goal

pub returns-clause-kinds : goal.returns-clause-kinds
returns-clause-kinds c = λ kind a b. record {
  one = IsCost-one kind;
  sum = IsCost-plus kind a b;
  product = IsCost-times kind a b;
  divided = IsCost-quotient kind a b;
  pushed = IsCost-push kind a b;
}

pub returns-clause-ranges : goal.returns-clause-ranges
returns-clause-ranges c = λ kind m n a b. record {
  wider = Within-more m n a;
  one = Within-one m kind;
  sum = Within-plus m a b;
  product = Within-times kind m n a b;
  divided = Within-quotient kind m n a b;
  pushed = Within-push kind m n a b;
}
