use Rattle.fst_determinize.proofs.Machines.{near_members}
use Rattle.fst_determinize.proofs.determinizing.DeterminizingNames.put_part.Goals as goal

pub put_subset_arcs-requires-clause-members : goal.put_subset_arcs-requires-clause-members
put_subset_arcs-requires-clause-members g c = near_members g.W.Weight.KIND g.W.Weight.value c.args.self.now.fst.now c.requires.holds.0 c.args.key.now c.requires.near
