use Rattle.std.proofs.Common.{◌≡◌, map, take}
use Rattle.fst_search.proofs.beginning.distances_of.Given as goal

abbrev pub invariant-loop-node : goal.invariant-loop-node
invariant-loop-node g l = l.values.items ≡ map (λ node. node.distance) (take l.node-index l.node-items)
