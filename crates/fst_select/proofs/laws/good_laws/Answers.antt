use Rattle.fst_select.proofs.GoodPaths.{good_laws}
use Rattle.fst_select.proofs.laws.good_laws.Goals as goal

pub returns : goal.returns
returns g c kind graph s d is = good_laws kind graph s d is
