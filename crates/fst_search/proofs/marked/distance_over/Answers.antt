use Rattle.std.proofs.Common.{ℕ, Bool, List, ◌≡◌, ◌*◌, Some, map, slice_get}
use Rattle.fst_machine.proofs.Arcs.{at_mapped}
use Rattle.fst_search.proofs.marked.distance_over.Goals as goal

pub returns-in-Ok-Ok-clause-numbers : goal.returns-in-Ok-Ok-clause-numbers
returns-in-Ok-Ok-clause-numbers g c q d there = (rw c.in-Ok-Ok.field-0-is at c.in-Ok-Ok.ensures.made).numbers q (g.W.Weight.wide_value d) (at_mapped g.W.Weight.wide_value c.in-Ok-Ok.distances.items q d there)

pub returns-in-Ok-Ok-clause-kinds : goal.returns-in-Ok-Ok-clause-kinds
returns-in-Ok-Ok-clause-kinds g c q d there = (rw c.in-Ok-Ok.field-0-is at c.in-Ok-Ok.ensures.made).kinds q (g.W.Weight.wide_value d) (at_mapped g.W.Weight.wide_value c.in-Ok-Ok.distances.items q d there)
