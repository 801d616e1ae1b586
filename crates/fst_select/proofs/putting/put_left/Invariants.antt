use Rattle.std.proofs.Common.{◌≡◌, ◌++◌, List, vec_len}
use Rattle.std.specs.Prelude.{All}
use Rattle.fst_nbest.specs.Heap.{IsHeap}
use Rattle.fst_select.specs.declared.entry.Entry.{Entry}
use Rattle.fst_select.specs.Entries.{CanCompare, entry_cmp, total_cmp, words_of}
use Rattle.fst_select.specs.Outlook.{IsDue}
use Rattle.fst_select.specs.Tables.{ArePut}
use Rattle.fst_select.proofs.putting.put_left.Given as goal

abbrev pub invariant-loop-entry : goal.invariant-loop-entry
invariant-loop-entry g l =
    let w = g.W.Weight in
    let words = words_of l.listed in
    record {
      ready : IsHeap (entry_cmp w.wide_value words) l.table.ready.items;
      later : IsHeap (total_cmp w.wide_value) l.table.later.items;
      compare : All (CanCompare words) l.table.ready.items;
      left : All (CanCompare words) l.left.items;
      put : (done : List (Entry _)) × (l.initial.left.items ≡ l.left.items ++ done)
          × ArePut (λ e. IsDue w.KIND l.outlook.due (w.wide_value e.total)) done l.initial.table.ready.items l.initial.table.later.items l.table.ready.items l.table.later.items;
    }

abbrev pub decreases-loop-entry : goal.decreases-loop-entry
decreases-loop-entry g l = vec_len l.left
