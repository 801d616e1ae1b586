use Rattle.fst_binary.proofs.Values.{same_machine}
use Rattle.fst_binary.proofs.laws.values_tell_machines.Goals as goal

pub returns : goal.returns
returns g c = λ m n e. same_machine g.W.Weight.value g.met.W.Weight.value_apart m n e
