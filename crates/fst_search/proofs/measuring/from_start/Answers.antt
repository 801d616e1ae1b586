use Rattle.std.proofs.Common.{length, map, ◌∙◌}
use Rattle.fst_machine.specs.Graph.{graph_of}
use Rattle.fst_machine.specs.Machine.{valued}
use Rattle.fst_search.proofs.Starting.{whole_cycle, whole_made}
use Rattle.fst_search.proofs.measuring.from_start.Goals as goal

pub returns-clause-made : goal.returns-clause-made
returns-clause-made g c =
    let m = g.M.AsMachine.machine c.args.fst.now in
    whole_made g.W.Weight.KIND (graph_of (valued g.M.AsMachine.value m)) (λ v. map g.W.Weight.wide_value v.items) c.as_slice.result.now (length m.states) g.M.Widens.bound c.from_start_over.result (c.as_slice.ensures.value ∙ c.new-marks.ensures.items) c.from_start_over.ensures.made

pub returns-clause-cycle : goal.returns-clause-cycle
returns-clause-cycle g c =
    let m = g.M.AsMachine.machine c.args.fst.now in
    whole_cycle g.W.Weight.KIND (graph_of (valued g.M.AsMachine.value m)) (λ path. path) c.as_slice.result.now c.from_start_over.result c.from_start_over.ensures.cycle
