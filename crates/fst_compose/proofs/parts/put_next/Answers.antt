use Rattle.std.proofs.Common.{map, arith}
use Rattle.std.specs.List.{flat_map}
use Rattle.fst_machine.specs.Machine.{valued_arc}
use Rattle.fst_compose.specs.Composition.{first_arcs, second_arcs}
use Rattle.fst_compose.proofs.Parting.{all_left, some_left}
use Rattle.fst_compose.proofs.parts.put_next.Goals as goal

pub returns-clause-put : goal.returns-clause-put
returns-clause-put g c =
    let seconds = map (valued_arc g.W.Weight.value) c.args.bs.now in
    some_left (first_arcs g.W.Weight.KIND c.args.key seconds) (valued_arc g.W.Weight.value) c.args.arcs.now (flat_map (second_arcs c.args.key) seconds) c.args.from _ _ _ (omega arith) c.in_ok-put_all_found.ensures.put

pub returns-then-next-arcs-clause-put : goal.returns-then-next-arcs-clause-put
returns-then-next-arcs-clause-put g c =
    let seconds = map (valued_arc g.W.Weight.value) c.args.bs.now in
    all_left (first_arcs g.W.Weight.KIND c.args.key seconds) (valued_arc g.W.Weight.value) c.args.arcs.now (flat_map (second_arcs c.args.key) seconds) c.args.from c.behind-rest.result.now _ _ c.behind-rest.ensures c.in_ok-put_by_second.ensures.put
