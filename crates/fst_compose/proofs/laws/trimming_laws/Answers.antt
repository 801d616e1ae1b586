use Rattle.fst_compose.proofs.Through.{connected_composition}
use Rattle.fst_compose.proofs.laws.trimming_laws.Goals as goal

pub returns : goal.returns
returns g c = λ kind a b names whole trim kept is keeps. connected_composition kind a b names whole trim kept is keeps
