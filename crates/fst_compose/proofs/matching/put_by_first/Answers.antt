use Rattle.std.proofs.Common.{◌≡◌, ◌*◌, ◌++◌, ℕ, List, arith, length, map, subst, sym}
use Rattle.std.specs.Result.{OnOk}
use Rattle.std.proofs.lemmas.List.Sorted.{length_permutation}
use Rattle.fst_semiring.specs.Cost.{Cost}
use Rattle.fst_machine.specs.Machine.{Arc}
use Rattle.fst_trim.specs.declared.side.Side.TheVariants.{Input}
use Rattle.fst_trim.specs.Sorting.{IsStableSort}
use Rattle.fst_walk.specs.Names.{key_arc}
use Rattle.fst_compose.specs.Names.{Name}
use Rattle.fst_compose.proofs.Counting.{more_steps}
use Rattle.fst_compose.proofs.Stable.{sorted_same}
use Rattle.fst_compose.proofs.matching.put_by_first.Goals as goal

pub returns-clause-put : goal.returns-clause-put
returns-clause-put g c =
    let stable : IsStableSort Input c.args.bs.now c.as_slice.result.now = subst (IsStableSort Input c.args.bs.now) (sym c.as_slice.ensures.value) c.in_ok-sort_arcs.ensures in
    subst (λ (zs : List (Arc Cost (Name ℕ ℕ))). OnOk c.put_by_both-2.result (map (key_arc g.W.Weight.wide_value) c.put_by_both-2.new.out.items ≡ map (key_arc g.W.Weight.wide_value) c.args.out.now.items ++ zs))
    (sorted_same g.W.Weight.KIND g.W.Weight.value c.args.key c.args.arcs.now c.args.bs.now c.as_slice.result.now stable) c.put_by_both-2.ensures.put

pub returns-clause-cost : goal.returns-clause-cost
returns-clause-cost g c =
    let stable : IsStableSort Input c.args.bs.now c.as_slice.result.now = subst (IsStableSort Input c.args.bs.now) (sym c.as_slice.ensures.value) c.in_ok-sort_arcs.ensures in
    let size = length_permutation c.args.bs.now c.as_slice.result.now stable.same in
    more_steps (2 * length c.as_slice.result.now) (length c.args.arcs.now) (2 * length c.args.bs.now) (length c.args.arcs.now) c.args.steps.now c.put_by_both-2.new.steps (omega (arith, size)) (omega arith) c.put_by_both-2.ensures.cost
