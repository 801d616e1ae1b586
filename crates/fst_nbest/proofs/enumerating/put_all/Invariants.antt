use Rattle.std.proofs.Common.{◌++◌, vec_len}
use Rattle.std.specs.Prelude.{All}
use Rattle.std.specs.List.Sorted.{IsPermutation}
use Rattle.fst_nbest.specs.Heap.{IsHeap}
use Rattle.fst_nbest.specs.Entries.{CanCompare, entry_cmp}
use Rattle.fst_nbest.proofs.enumerating.put_all.Given as goal

abbrev pub invariant-loop-entry : goal.invariant-loop-entry
invariant-loop-entry g l = record {
  heap : IsHeap (entry_cmp g.S.System.value l.comparing.listed.now l.comparing.orders.now) l.table.items;
  table : All (CanCompare l.comparing.listed.now l.comparing.orders.now) l.table.items;
  left : All (CanCompare l.comparing.listed.now l.comparing.orders.now) l.left.items;
  same : IsPermutation (l.initial.left.items ++ l.initial.table.items) (l.left.items ++ l.table.items);
}

abbrev pub decreases-loop-entry : goal.decreases-loop-entry
decreases-loop-entry g l = vec_len l.left
