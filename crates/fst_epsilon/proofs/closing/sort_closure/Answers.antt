use Rattle.std.proofs.Common.{rules}
use Rattle.std.proofs.lemmas.List.Sorted.{IsNonDecreasingBy-from_sort_by_key}
use Rattle.fst_search.specs.Closure.{Reached}
use Rattle.fst_epsilon.specs.Gathering.{rank}
use Rattle.fst_epsilon.proofs.closing.sort_closure.Goals as goal

pub returns-clause-ranked : goal.returns-clause-ranked
returns-clause-ranked g c = IsNonDecreasingBy-from_sort_by_key (λ (r : Reached g.row.D.Denot). rank c.args.own r.state) _ c.sort_unstable_by_key.ensures.sorted (λ a r q k. search rules)
