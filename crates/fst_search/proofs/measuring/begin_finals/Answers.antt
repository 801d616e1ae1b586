use Rattle.std.proofs.Common.{map, ◌∙◌}
use Rattle.fst_machine.specs.Graph.{graph_of}
use Rattle.fst_machine.specs.Machine.{valued}
use Rattle.fst_search.specs.Searching.{distance_at, valued_node}
use Rattle.fst_search.proofs.Finishing.{begins_more}
use Rattle.fst_search.proofs.measuring.begin_finals.Goals as goal

pub loop-state-preserved : goal.loop-state-preserved
loop-state-preserved g c =
    let m = g.M.AsMachine.machine c.args.fst.now in
    let e = c.in_ok-begin_final.ensures in
    let v = c.loop-state.invariant in
    record {
      begun = e.begun v.begun;
      values = begins_more c.args.marks.now (graph_of (valued g.M.AsMachine.value m)) c.loop-state.state (distance_at (map (valued_node g.W.Weight.wide_value) c.loop-state.table.nodes.items)) (distance_at (map (valued_node g.W.Weight.wide_value) c.begin_final.new.table.nodes.items)) v.values e.here e.others;
      later = e.later ∙ v.later;
      below = e.below v.below;
    }
