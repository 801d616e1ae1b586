use Rattle.std.proofs.Common.{map}
use Rattle.fst_machine.specs.Machine.{valued_arc}
use Rattle.fst_compose.specs.Composition.{first_arcs}
use Rattle.fst_compose.proofs.Appending.{brings_more}
use Rattle.fst_compose.proofs.expanding.put_firsts.Goals as goal

pub loop-a-preserved : goal.loop-a-preserved
loop-a-preserved g c = brings_more (first_arcs g.W.Weight.KIND c.args.key (map (valued_arc g.W.Weight.value) c.args.bs.now)) (valued_arc g.W.Weight.value) c.args.arcs.now _ _ _ c.loop-a.a-index c.a-item.result c.loop-a-test.true c.a-item.is c.loop-a.invariant c.in_ok-put_first.ensures
