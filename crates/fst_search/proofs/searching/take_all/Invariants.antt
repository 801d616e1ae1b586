use Rattle.std.proofs.Common.{◌+◌, ◌≤◌, ℕ, map, length}
use Rattle.fst_semiring.specs.Cost.{Cost}
use Rattle.fst_machine.specs.BreadthFirst.{Has}
use Rattle.fst_search.specs.Hops.{IsHop}
use Rattle.fst_search.specs.Searching.{Searching, valued_node}
use Rattle.fst_search.specs.Trying.{left, most_takes}
use Rattle.fst_search.proofs.searching.take_all.Given as goal

abbrev pub invariant-loop-state : goal.invariant-loop-state
invariant-loop-state g l =
    let value = g.W.Weight.wide_value in
    let goes = IsHop g.M.AsMachine.value l.marks l.links in
    let n = length l.links in
    let nodes = map (valued_node value) l.table.nodes.items in
    let before = map (valued_node value) l.fn.table.nodes.items in
    let members = g.Q.StateQueue.members l.queue in
    let waiting = g.Q.StateQueue.members l.fn.queue in
    record {
      some : (source : ℕ → Cost) × (k : ℕ) × (takes : ℕ) × (takes + n ≤ most_takes) × Searching g.W.Weight.KIND goes source n g.M.Widens.bound k l.mark (takes + l.taken) (Has members) nodes members l.table.later.items l.table.met.items;
      every : (source : ℕ → Cost) (k takes : ℕ) → Searching g.W.Weight.KIND goes source n g.M.Widens.bound k l.mark takes (Has waiting) before waiting l.fn.table.later.items l.fn.table.met.items → Searching g.W.Weight.KIND goes source n g.M.Widens.bound k l.mark (takes + l.taken) (Has members) nodes members l.table.later.items l.table.met.items;
      left : l.taken + left l.mark nodes ≤ n;
    }

abbrev pub decreases-loop-state : goal.decreases-loop-state
decreases-loop-state g l = left l.mark (map (valued_node g.W.Weight.wide_value) l.table.nodes.items)
