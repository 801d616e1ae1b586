use Rattle.fst_trim.specs.FirstArcs.{HasTwoLabels}
use Rattle.fst_trim.proofs.Places.{none_decides}
use Rattle.fst_trim.proofs.first_arc.is_acceptor.Goals as goal

pub returns : goal.returns
returns g c = none_decides HasTwoLabels c.args.a.now c.not_acceptor_at.result c.is_none.result c.not_acceptor_at.ensures c.is_none.ensures
