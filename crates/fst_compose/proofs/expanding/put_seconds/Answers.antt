use Rattle.fst_machine.specs.Machine.{valued_arc}
use Rattle.fst_compose.specs.Composition.{second_arcs}
use Rattle.fst_compose.proofs.Appending.{brings_more}
use Rattle.fst_compose.proofs.expanding.put_seconds.Goals as goal

pub loop-b-preserved : goal.loop-b-preserved
loop-b-preserved g c = brings_more (second_arcs c.args.key) (valued_arc g.W.Weight.value) c.args.bs.now _ _ _ c.loop-b.b-index c.b-item.result c.loop-b-test.true c.b-item.is c.loop-b.invariant c.in_ok-put_second.ensures
