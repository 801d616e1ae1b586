use Rattle.std.proofs.Common.{length, rules, sym, subst}
use Rattle.std.specs.List.Sorted.{IsNonDecreasingBy}
use Rattle.std.proofs.lemmas.List.Sorted.{IsNonDecreasingBy-from_sort_by_key}
use Rattle.fst_minimize.specs.Dividing.{AreBelow, TakesAlike}
use Rattle.fst_minimize.specs.declared.backs.Keyed.{Keyed}
use Rattle.fst_minimize.proofs.ByBlocks.{moved_below, moved_takes}
use Rattle.fst_minimize.proofs.dividing.divide_by.Goals as goal

pub divide_by_runs-requires-clause-sorted : goal.divide_by_runs-requires-clause-sorted
divide_by_runs-requires-clause-sorted c =
    subst (IsNonDecreasingBy (λ (i : Keyed). i.key)) (sym c.deref.ensures.value)
    (IsNonDecreasingBy-from_sort_by_key (λ (i : Keyed). i.key) _ c.in_ok-sort_by_key.ensures.sorted (λ a r q k. search rules))

pub divide_by_runs-requires-clause-below : goal.divide_by_runs-requires-clause-below
divide_by_runs-requires-clause-below c =
    subst (AreBelow (length c.args.parts.now.blocks.items)) (sym c.deref.ensures.value) (moved_below (length c.args.parts.now.blocks.items) c.args.items.now.items c.sort_by_key.new.self.items c.in_ok-sort_by_key.ensures.permutation c.requires.below)

pub returns-clause-alike : goal.returns-clause-alike
returns-clause-alike c = λ g takes keeps.
    let n = length c.args.parts.now.blocks.items in
    let sorted = moved_takes g n c.args.items.now.items c.sort_by_key.new.self.items c.in_ok-sort_by_key.ensures.permutation takes in
    c.in_ok-divide_by_runs.ensures.alike g (subst (TakesAlike g n) (sym c.deref.ensures.value) sorted) keeps
