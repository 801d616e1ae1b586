use Rattle.std.proofs.Common.{◌≡◌, length, map}
use Rattle.fst_search.specs.Closure.{Unmeeting, valued_reached}
use Rattle.fst_search.specs.Searching.{valued_node}
use Rattle.fst_search.proofs.unmeeting.take_met.Given as goal

abbrev pub invariant-loop-state : goal.invariant-loop-state
invariant-loop-state g l =
    let value = g.W.Weight.wide_value in
    record {
      taking : Unmeeting (map (valued_node value) l.fn.table.nodes.items) (map (valued_node value) l.table.nodes.items) l.fn.table.met.items l.table.met.items (map (valued_reached value) l.list.items);
      later : l.table.later.items ≡ l.fn.table.later.items;
    }

abbrev pub decreases-loop-state : goal.decreases-loop-state
decreases-loop-state g l = length l.table.met.items
