use Rattle.fst_setops.proofs.SameString.{relates_both}
use Rattle.fst_setops.proofs.laws.intersection_laws.Goals as goal

pub returns : goal.returns
returns g c = λ kind a b left right x z w. relates_both kind a b left right x z w
