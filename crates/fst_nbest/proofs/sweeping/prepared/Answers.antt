use Rattle.fst_nbest.proofs.Sweeps.{firm_arcs}
use Rattle.fst_nbest.proofs.sweeping.prepared.Goals as goal

pub swept_by_number-requires-clause-firm : goal.swept_by_number-requires-clause-firm
swept_by_number-requires-clause-firm g c = firm_arcs g.W.Weight.KIND g.M.AsMachine.value (g.M.AsMachine.machine c.args.fst.now) c.state_count-states.ensures.good c.has_better-better.ensures

pub swept_by-requires-clause-firm : goal.swept_by-requires-clause-firm
swept_by-requires-clause-firm g c = firm_arcs g.W.Weight.KIND g.M.AsMachine.value (g.M.AsMachine.machine c.args.fst.now) c.state_count-states.ensures.good c.has_better-better.ensures
