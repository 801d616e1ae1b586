use Rattle.fst_setops.proofs.Unweighing.{unweighted_by}
use Rattle.fst_setops.proofs.unweighted.is_unweighted.Goals as goal

pub returns-then-is_plain : goal.returns-then-is_plain
returns-then-is_plain g c = unweighted_by g.W.Weight.KIND g.W.Weight.value c.args.last c.args.arcs.now c.weigh_one.result (c.is_plain.ensures.0 c.if-is_plain.true) c.weigh_one.ensures
