use Rattle.std.proofs.Common.{◌≡◌, ◌+◌, false, length, map}
use Rattle.std.specs.List.{All}
use Rattle.std.specs.Option.{option_map}
use Rattle.fst_semiring.specs.Cost.{infinite}
use Rattle.fst_semiring.specs.Semiring.{cancels}
use Rattle.fst_machine.specs.Graph.{graph_of}
use Rattle.fst_machine.specs.Machine.{valued}
use Rattle.fst_machine.specs.Steps.{written}
use Rattle.fst_nbest.specs.Heap.{IsHeap}
use Rattle.fst_nbest.specs.Totals.{wide_cmp}
use Rattle.fst_nbest.proofs.ClassLists.{IsOnTotals}
use Rattle.fst_nbest.proofs.by_class.by_classes.Given as goal

abbrev pub invariant-classes : goal.invariant-classes
invariant-classes g l =
    let wide = g.W.Weight.wide_value in
    record {
      heap : IsHeap (wide_cmp wide) l.totals.items;
      solids : All (λ w. wide w ≡ infinite → ⊥) l.totals.items;
      search : (kind : cancels g.W.Weight.KIND ≡ false) → IsOnTotals g.W.Weight.KIND kind (graph_of (valued g.M.AsMachine.value (g.M.AsMachine.machine l.fst))) l.n (option_map wide l.last) (map wide l.totals.items) (map written l.paths);
      steps : l.steps ≡ l.initial.steps + length l.paths;
    }

abbrev pub decreases-classes : goal.decreases-classes
decreases-classes g l = length l.totals.items
