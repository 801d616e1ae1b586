use Rattle.std.proofs.Common.{◌*◌, length, map, arith}
use Rattle.fst_machine.specs.Machine.{valued_arc}
use Rattle.fst_compose.specs.Composition.{first_arcs}
use Rattle.fst_compose.proofs.Appending.{brings_more}
use Rattle.fst_compose.proofs.Counting.{then_steps}
use Rattle.fst_compose.proofs.matching.put_all_found.Goals as goal

pub returns-in_err-put_found-clause-cost : goal.returns-in_err-put_found-clause-cost
returns-in_err-put_found-clause-cost g c = then_steps (2 * c.loop-a.a-index) 2 (2 * length c.args.arcs.now) (length c.args.bs.now) c.args.steps.now c.loop-a.steps _ c.loop-a.invariant.cost c.put_found.ensures.cost (omega (arith, c.loop-a-test.true))

pub loop-a-preserved : goal.loop-a-preserved
loop-a-preserved g c = record {
  put = brings_more (first_arcs g.W.Weight.KIND c.args.key (map (valued_arc g.W.Weight.value) c.args.bs.now)) (valued_arc g.W.Weight.value) c.args.arcs.now _ _ _ c.loop-a.a-index c.a-item.result c.loop-a-test.true c.a-item.is c.loop-a.invariant.put c.in_ok-put_found.ensures.put;
  cost = then_steps (2 * c.loop-a.a-index) 2 _ (length c.args.bs.now) c.args.steps.now c.loop-a.steps _ c.loop-a.invariant.cost c.put_found.ensures.cost (omega arith);
}
