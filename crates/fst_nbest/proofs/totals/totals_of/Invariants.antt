use Rattle.std.proofs.Common.{◌≡◌, ◌<◌, ℕ, map}
use Rattle.std.specs.List.{All}
use Rattle.fst_semiring.specs.Cost.{infinite}
use Rattle.fst_machine.specs.Machine.{valued}
use Rattle.fst_machine.specs.Graph.{graph_of}
use Rattle.fst_nbest.specs.Heap.{IsHeap}
use Rattle.fst_nbest.specs.Ready.{dist_in}
use Rattle.fst_nbest.specs.Totals.{HasTotals, wide_cmp}
use Rattle.fst_nbest.proofs.totals.totals_of.Given as goal

abbrev pub invariant-loop-state : goal.invariant-loop-state
invariant-loop-state g l =
    let wide = g.W.Weight.wide_value in
    record {
      heap : IsHeap (wide_cmp wide) l.totals.items;
      solids : All (λ w. wide w ≡ infinite → ⊥) l.totals.items;
      all : (p : ℕ) → p < l.state → HasTotals (graph_of (valued g.M.AsMachine.value (g.M.AsMachine.machine l.fst))) (dist_in wide l.dist.items) (wide l.least) p (map wide l.totals.items);
    }
