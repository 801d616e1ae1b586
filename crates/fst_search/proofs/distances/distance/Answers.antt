use Rattle.fst_search.proofs.Measured.{each_kind, each_number}
use Rattle.fst_search.proofs.distances.distance.Goals as goal

pub returns-in-Ok-Ok-clause-numbers : goal.returns-in-Ok-Ok-clause-numbers
returns-in-Ok-Ok-clause-numbers g c = each_number g.W.Weight.wide_value _ _ _ _ _ _ c.in-Ok-Ok.distances.items (rw c.in-Ok-Ok.field-0-is at c.in-Ok-Ok.ensures.made)

pub returns-in-Ok-Ok-clause-kinds : goal.returns-in-Ok-Ok-clause-kinds
returns-in-Ok-Ok-clause-kinds g c = each_kind g.W.Weight.wide_value _ _ _ _ _ _ c.in-Ok-Ok.distances.items (rw c.in-Ok-Ok.field-0-is at c.in-Ok-Ok.ensures.made)
