use Rattle.fst_machine.specs.Graph.{graph_of}
use Rattle.fst_machine.specs.Machine.{valued}
use Rattle.fst_select.proofs.Moving.{best_first, first_solid, not_all_worse}
use Rattle.fst_select.proofs.class_beginning.best_waiting.Goals as goal

pub returns-clause-solid : goal.returns-clause-solid
returns-clause-solid g c =
    let w = g.W.Weight in
    let o = c.args.outlook.now in
    let items = c.args.later.now.items in
    let h = c.requires.fronts in
    first_solid w.KIND (graph_of (valued w.value o.machine)) w.wide_value h.2 h.0 h.1 c.machine-fst.ensures.weighed.weighted items h.3 c.index.result.now c.requires.some c.index.ensures h.4

pub returns-clause-least : goal.returns-clause-least
returns-clause-least g c = best_first g.W.Weight.wide_value c.args.later.now.items c.requires.heap c.requires.some c.index.result.now c.index.ensures

pub returns-clause-reached : goal.returns-clause-reached
returns-clause-reached g c = not_all_worse g.W.Weight.wide_value c.args.later.now.items c.requires.heap c.requires.some c.index.result.now c.index.ensures
