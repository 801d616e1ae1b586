use Rattle.std.proofs.Common.{◌≡◌, ◌⊎◌, ◌<◌, false, List, length, vec_len}
use Rattle.std.specs.Prelude.{All}
use Rattle.std.specs.Ordering.{is_gt}
use Rattle.fst_semiring.specs.Cost.{cost_cmp}
use Rattle.fst_machine.specs.Graph.{graph_of}
use Rattle.fst_machine.specs.Machine.{valued}
use Rattle.fst_nbest.specs.Heap.{IsHeap}
use Rattle.fst_select.specs.Entries.{CanCompare, entry_cmp, total_cmp, words_of}
use Rattle.fst_select.specs.Frontier.{Front}
use Rattle.fst_select.specs.Tables.{AreKeyed}
use Rattle.fst_select.proofs.Moving.{IsMoving}
use Rattle.fst_select.proofs.class_beginning.begin_class.Given as goal

abbrev pub invariant-loop-entry : goal.invariant-loop-entry
invariant-loop-entry g l =
    let w = g.W.Weight in
    let words = words_of l.listed in
    let graph = graph_of (valued w.value l.fn.outlook.machine) in
    record {
      ready : IsHeap (entry_cmp w.wide_value words) l.table.ready.items;
      later : IsHeap (total_cmp w.wide_value) l.table.later.items;
      compare : All (CanCompare words) l.table.ready.items;
      least : All (λ e. is_gt (cost_cmp (w.wide_value l.total) (w.wide_value e.total)) ≡ false) l.table.later.items;
      total : All (λ e. w.wide_value e.total ≡ w.wide_value l.total) l.table.ready.items;
      moved : (0 < length l.table.ready.items) ⊎ (l.table.later.items ≡ l.fn.table.later.items);
      moving : (fs : List Front) → AreKeyed w.KIND graph w.wide_value l.fn.outlook.due words l.subsets.items l.fn.table.later.items fs
          → IsMoving w.KIND graph w.wide_value l.fn.outlook.due (w.wide_value l.total) words l.subsets.items l.table.ready.items l.table.later.items fs;
    }

abbrev pub decreases-loop-entry : goal.decreases-loop-entry
decreases-loop-entry g l = vec_len l.table.later
