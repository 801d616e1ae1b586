use Rattle.fst_determinize.proofs.Machines.{good_arcs}
use Rattle.fst_determinize.proofs.determinizing.walk_subsets.Goals as goal

pub walk-requires-clause-holds : goal.walk-requires-clause-holds
walk-requires-clause-holds g c = (c.requires.weighed, good_arcs g.W.Weight.KIND g.W.Weight.value c.args.fst.now c.requires.weighed)
