use Rattle.fst_trim.specs.FirstArcs.{Repeats}
use Rattle.fst_trim.proofs.Places.{none_decides}
use Rattle.fst_trim.proofs.first_arc.is_deterministic.Goals as goal

pub returns : goal.returns
returns g c = none_decides Repeats c.args.a.now c.not_deterministic_at.result c.is_none.result c.not_deterministic_at.ensures c.is_none.ensures
