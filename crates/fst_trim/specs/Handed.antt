-- The machine that was handed over.
use Rattle.fst_machine.specs.Machine.{Machine}
use Rattle.fst_trim.specs.declared.connected.Handed.{Handed}
use Rattle.fst_trim.specs.declared.connected.Handed.TheVariants.{Lent, Own}

abbrev pub machine_of : {V X : Type 0} → Handed V X → Machine V
machine_of (Lent m) = m.now
machine_of (Own m) = m
