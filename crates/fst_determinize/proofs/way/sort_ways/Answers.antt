use Rattle.std.proofs.Common.{rules}
use Rattle.std.proofs.lemmas.List.Sorted.{IsNonDecreasingBy-from_sort_by_key}
use Rattle.fst_determinize.specs.Kept.{rank}
use Rattle.fst_determinize.proofs.way.sort_ways.Goals as goal

pub returns-clause-ranked : goal.returns-clause-ranked
returns-clause-ranked g c = IsNonDecreasingBy-from_sort_by_key rank _ c.sort_unstable_by_key.ensures.sorted (λ a r q k. search rules)
