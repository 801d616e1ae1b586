use Rattle.std.proofs.Common.{◌≡◌, ◌<◌, List, length, map}
use Rattle.fst_machine.specs.declared.path.Step.{Step}
use Rattle.fst_search.specs.Searching.{IsTrail, link_at, valued_node}
use Rattle.fst_search.proofs.searching.follow.Given as goal

abbrev pub invariant-loop : goal.invariant-loop
invariant-loop g l =
    (l.at < length l.nodes.items) × ((trail : List Step) × IsTrail (link_at (map (valued_node g.W.Weight.wide_value) l.nodes.items)) l.from trail l.at × (length trail ≡ l.counter))
