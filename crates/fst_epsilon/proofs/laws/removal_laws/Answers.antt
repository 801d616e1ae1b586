use Rattle.fst_epsilon.proofs.Theorem.{same_weights}
use Rattle.fst_epsilon.proofs.laws.removal_laws.Goals as goal

pub returns : goal.returns
returns g c kind a b r x y w = same_weights kind a b g.N.Meant.domain r x y w
