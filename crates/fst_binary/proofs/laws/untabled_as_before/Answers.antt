use Rattle.std.proofs.Common.{refl}
use Rattle.fst_binary.proofs.laws.untabled_as_before.Goals as goal

pub returns : goal.returns
returns c = λ kind m. refl
