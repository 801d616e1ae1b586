use Rattle.std.proofs.Common.{ℕ, ◌<◌, length, get_or}
use Rattle.fst_queue.specs.HeapOrder.{NotAfter}
use Rattle.fst_select.specs.declared.entry.Entry.{Entry}
use Rattle.fst_select.specs.Entries.{sibling_cmp}
use Rattle.fst_select.proofs.siblings.take_least.Given as goal

abbrev pub invariant-loop-i : goal.invariant-loop-i
invariant-loop-i g l = record {
  within : l.least < length l.parts.items;
  first : (j : ℕ) (d : Entry _) → j < l.i → NotAfter (sibling_cmp g.W.Weight.wide_value) (get_or l.parts.items l.least d) (get_or l.parts.items j d);
}
