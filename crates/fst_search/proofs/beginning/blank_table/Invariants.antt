use Rattle.std.proofs.Common.{map}
use Rattle.fst_search.specs.Beginning.{IsBlank}
use Rattle.fst_search.specs.Searching.{valued_node}
use Rattle.fst_search.proofs.beginning.blank_table.Given as goal

abbrev pub invariant-loop : goal.invariant-loop
invariant-loop g l = IsBlank l.counter (map (valued_node g.W.Weight.wide_value) l.nodes.items)
