use Rattle.std.proofs.Common.{◌≡◌, ◌≤◌, ◌+◌, ◌*◌, ◌-◌, ℕ, [], map, length}
use Rattle.fst_semiring.specs.Cost.{Cost}
use Rattle.fst_machine.specs.BreadthFirst.{Has}
use Rattle.fst_search.specs.Hops.{IsHop}
use Rattle.fst_search.specs.Searching.{Searching, valued_node}
use Rattle.fst_search.proofs.searching.search.Given as goal

abbrev pub invariant-rounds : goal.invariant-rounds
invariant-rounds g l =
    let value = g.W.Weight.wide_value in
    let goes = IsHop g.M.AsMachine.value l.marks l.links in
    let n = length l.links in
    let nodes = map (valued_node value) l.table.nodes.items in
    let before = map (valued_node value) l.fn.table.nodes.items in
    let members = g.Q.StateQueue.members l.queue in
    let waiting = g.Q.StateQueue.members l.fn.queue in
    record {
      some : (source : ℕ → Cost) × (takes : ℕ) × (takes ≤ l.round * 4194304) × Searching g.W.Weight.KIND goes source n g.M.Widens.bound l.round (2 * l.round + 1) takes (Has members) nodes members [] l.table.met.items;
      every : (source : ℕ → Cost) → Searching g.W.Weight.KIND goes source n g.M.Widens.bound 0 1 0 (Has waiting) before waiting [] l.fn.table.met.items
          → (takes : ℕ) × Searching g.W.Weight.KIND goes source n g.M.Widens.bound l.round (2 * l.round + 1) takes (Has members) nodes members [] l.table.met.items;
      later : l.table.later.items ≡ [];
      rounds : l.round ≤ n;
      looked : l.since ≤ n;
    }

abbrev pub decreases-rounds : goal.decreases-rounds
decreases-rounds g l = length l.links - l.round
