use Rattle.fst_determinize.proofs.Machines.{near_members}
use Rattle.fst_determinize.proofs.determinizing.DeterminizingNames.final_weight.Goals as goal

pub last_weight-requires : goal.last_weight-requires
last_weight-requires g c = near_members g.W.Weight.KIND g.W.Weight.value c.args.self.now.fst.now c.requires.holds.0 c.args.key.now c.requires.near
