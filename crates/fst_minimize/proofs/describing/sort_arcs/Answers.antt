use Rattle.std.proofs.Common.{ℕ, rules}
use Rattle.std.proofs.lemmas.List.Sorted.{IsNonDecreasingBy-from_sort_by_key}
use Rattle.fst_machine.specs.Machine.{Arc}
use Rattle.fst_minimize.proofs.describing.sort_arcs.Goals as goal

pub returns-clause-sorted : goal.returns-clause-sorted
returns-clause-sorted g c = IsNonDecreasingBy-from_sort_by_key (λ (a : Arc g.row.W-Wide.Denot ℕ). a.ilabel) _ c.in_ok-sort_by_key.ensures.sorted (λ a r q k. search rules)
