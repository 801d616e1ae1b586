use Rattle.std.proofs.Common.{◌≡◌, map, length}
use Rattle.fst_machine.specs.Graph.{graph_of}
use Rattle.fst_machine.specs.Machine.{valued}
use Rattle.fst_search.specs.Beginning.{BeginsFinals, IsBegun}
use Rattle.fst_search.specs.Searching.{distance_at, valued_node}
use Rattle.fst_search.specs.Trying.{AreBelow}
use Rattle.fst_search.proofs.measuring.begin_finals.Given as goal

abbrev pub invariant-loop-state : goal.invariant-loop-state
invariant-loop-state g l =
    let m = g.M.AsMachine.machine l.fst in
    let nodes = map (valued_node g.W.Weight.wide_value) l.table.nodes.items in
    let members = g.Q.StateQueue.members l.queue in
    record {
      begun : IsBegun g.W.Weight.KIND (length m.states) g.M.Widens.bound nodes members l.table.met.items;
      values : BeginsFinals l.marks (graph_of (valued g.M.AsMachine.value m)) l.state (distance_at nodes);
      later : l.table.later.items ≡ l.fn.table.later.items;
      below : AreBelow (length m.states) members;
    }
