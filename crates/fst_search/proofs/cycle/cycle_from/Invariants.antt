use Rattle.std.proofs.Common.{◌≡◌, ◌≤◌, ◌+◌, List, length, map}
use Rattle.fst_machine.specs.declared.path.Step.{Step}
use Rattle.fst_search.specs.Cycles.{told}
use Rattle.fst_search.specs.Searching.{IsTrail, link_at, valued_node}
use Rattle.fst_search.proofs.cycle.cycle_from.Given as goal

abbrev pub invariant-loop : goal.invariant-loop
invariant-loop g l =
    let L = link_at (map (valued_node g.W.Weight.wide_value) l.nodes.items) in
    (done : List Step) × (rest : List Step) × IsTrail L l.state done l.at × IsTrail L l.at rest l.state × (1 ≤ length rest) × (length done + length rest ≤ length l.nodes.items) × (length done ≡ l.counter) × (l.steps.items ≡ told l.direction l.state done)
