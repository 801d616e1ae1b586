use Rattle.std.proofs.Common.{◌≡◌, ◌⊎◌, ◌+◌, ◌≤◌, ℕ, map, take, length}
use Rattle.fst_semiring.specs.Cost.{Cost}
use Rattle.fst_machine.specs.BreadthFirst.{Has}
use Rattle.fst_search.specs.Hops.{IsHop, link_hop}
use Rattle.fst_search.specs.Searching.{Looking, Searching, valued_node}
use Rattle.fst_search.specs.Trying.{AreBelow, left, most_takes}
use Rattle.fst_search.proofs.searching.look.Given as goal

abbrev pub invariant-loop-link : goal.invariant-loop-link
invariant-loop-link g l =
    let value = g.W.Weight.wide_value in
    let goes = IsHop g.M.AsMachine.value l.marks l.links in
    let n = length l.links in
    let nodes = map (valued_node value) l.table.nodes.items in
    let before = map (valued_node value) l.fn.table.nodes.items in
    let members = g.Q.StateQueue.members l.queue in
    let waiting = g.Q.StateQueue.members l.fn.queue in
    let done = map (link_hop g.M.AsMachine.value l.state) (take l.link-index l.link-items) in
    record {
      some : (source : ℕ → Cost) × (k : ℕ) × (takes : ℕ) × (takes ≤ most_takes) × Looking g.W.Weight.KIND goes source n g.M.Widens.bound k l.mark (takes + 1) l.state (value l.so_far) done nodes members l.table.later.items l.table.met.items;
      every : (source : ℕ → Cost) (k takes : ℕ) → Searching g.W.Weight.KIND goes source n g.M.Widens.bound k l.mark takes (λ q. Has waiting q ⊎ (q ≡ l.state)) before waiting l.fn.table.later.items l.fn.table.met.items → Looking g.W.Weight.KIND goes source n g.M.Widens.bound k l.mark (takes + 1) l.state (value l.so_far) done nodes members l.table.later.items l.table.met.items;
      left : left l.mark nodes ≡ left l.mark before;
      below : AreBelow n waiting → AreBelow n members;
    }
