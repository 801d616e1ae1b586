-- The machine on which an operation works.
use Rattle.fst_machine.specs.Machine.{Machine}
use Rattle.fst_rational.specs.declared.operand.Handed.{Handed}
use Rattle.fst_rational.specs.declared.operand.Handed.TheVariants.{Lent, Given}

abbrev pub machine_of : {V X : Type 0} → Handed V X → Machine V
machine_of (Lent m) = m.now
machine_of (Given m) = m
