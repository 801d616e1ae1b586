use Rattle.fst_search.proofs.Relaxed.{relaxed_arc, relaxed_final}
use Rattle.fst_search.proofs.laws.distance_laws.Goals as goal

pub returns : goal.returns
returns g c kind graph = record { final = relaxed_final kind graph; arc = relaxed_arc kind graph }
