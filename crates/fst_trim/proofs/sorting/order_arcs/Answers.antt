use Rattle.std.proofs.Common.{ℕ, sym, subst, rules}
use Rattle.std.proofs.lemmas.List.Sorted.{IsNonDecreasingBy-from_sort_by_key, answers_always}
use Rattle.fst_machine.specs.Machine.{Arc}
use Rattle.fst_trim.specs.declared.side.Side.{Side}
use Rattle.fst_trim.specs.declared.side.Side.TheVariants.{Input, Output}
use Rattle.fst_trim.specs.Sorting.{IsStableSort}
use Rattle.fst_trim.proofs.sorting.order_arcs.Goals as goal

pub returns-in_ok-sort_by_key-in-Input-clause-sorted : goal.returns-in_ok-sort_by_key-in-Input-clause-sorted
returns-in_ok-sort_by_key-in-Input-clause-sorted g c =
    let sorted : IsStableSort Input c.args.arcs.now c.sort_by_key.new.self = record {
      same = c.in_ok-sort_by_key-in-Input.ensures.permutation;
      stands = IsNonDecreasingBy-from_sort_by_key (λ (a : Arc g.row.W.Denot ℕ). a.ilabel) _ c.in_ok-sort_by_key-in-Input.ensures.sorted (λ a r q k. search rules);
      stable = c.in_ok-sort_by_key-in-Input.ensures.stable (λ (a : Arc g.row.W.Denot ℕ). a.ilabel) (answers_always _ _ _ (λ f a r h k. search rules));
    } in
    subst (λ (s : Side). IsStableSort s c.args.arcs.now c.sort_by_key.new.self) (sym c.in-Input.is) sorted

pub returns-in_ok-sort_by_key-in-Output-clause-sorted : goal.returns-in_ok-sort_by_key-in-Output-clause-sorted
returns-in_ok-sort_by_key-in-Output-clause-sorted g c =
    let sorted : IsStableSort Output c.args.arcs.now c.sort_by_key-in-Output.new.self = record {
      same = c.in_ok-sort_by_key-in-Output.ensures.permutation;
      stands = IsNonDecreasingBy-from_sort_by_key (λ (a : Arc g.row.W.Denot ℕ). a.olabel) _ c.in_ok-sort_by_key-in-Output.ensures.sorted (λ a r q k. search rules);
      stable = c.in_ok-sort_by_key-in-Output.ensures.stable (λ (a : Arc g.row.W.Denot ℕ). a.olabel) (answers_always _ _ _ (λ f a r h k. search rules));
    } in
    subst (λ (s : Side). IsStableSort s c.args.arcs.now c.sort_by_key-in-Output.new.self) (sym c.in-Output.is) sorted
