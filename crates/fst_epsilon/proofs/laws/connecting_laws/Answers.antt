use Rattle.fst_epsilon.proofs.Connecting.{connected_none}
use Rattle.fst_epsilon.proofs.laws.connecting_laws.Goals as goal

pub returns : goal.returns
returns c = λ m d. connected_none m d
