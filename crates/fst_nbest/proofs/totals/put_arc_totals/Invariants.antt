use Rattle.std.proofs.Common.{◌≡◌, ◌<◌, ℕ, Some, map, slice_get}
use Rattle.std.specs.List.{All}
use Rattle.fst_semiring.specs.Cost.{infinite}
use Rattle.fst_machine.specs.BreadthFirst.{Has}
use Rattle.fst_machine.specs.Machine.{Arc}
use Rattle.fst_nbest.specs.Heap.{IsHeap}
use Rattle.fst_nbest.specs.Ready.{dist_in}
use Rattle.fst_nbest.specs.Totals.{Keeps, MayTotal, wide_cmp}
use Rattle.fst_nbest.proofs.totals.put_arc_totals.Given as goal

abbrev pub invariant-loop-arc : goal.invariant-loop-arc
invariant-loop-arc g l =
    let wide = g.W.Weight.wide_value in
    record {
      heap : IsHeap (wide_cmp wide) l.totals.items;
      solids : All (λ w. wide w ≡ infinite → ⊥) l.totals.items;
      keeps : Keeps (map wide l.fn.totals.items) (map wide l.totals.items);
      here : (k : ℕ) (a : Arc g.row.V.Denot ℕ) → k < l.arc-index → slice_get l.arcs k ≡ Some a → MayTotal (wide l.least) (dist_in wide l.dist.items a.next) (g.M.AsMachine.value a.weight) → Has (map wide l.totals.items) (g.M.AsMachine.value a.weight);
    }
