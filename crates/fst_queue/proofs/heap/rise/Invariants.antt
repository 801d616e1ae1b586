use Rattle.std.proofs.Common.{◌<◌, length}
use Rattle.fst_queue.specs.Heap.{key_in, Linked, SamePresent}
use Rattle.fst_queue.specs.HeapOrder.{Rising}
use Rattle.fst_semiring.specs.Keys.{key_cmp}
use Rattle.fst_queue.proofs.heap.rise.Given as goal

abbrev pub invariant-loop-at : goal.invariant-loop-at
invariant-loop-at l = record {
  linked : Linked l.heap.items l.places.items (length l.keys.items);
  within : l.at < length l.heap.items;
  rising : Rising key_cmp (length l.heap.items) (key_in l.keys.items l.heap.items) l.at;
  same : SamePresent l.initial.places.items l.places.items;
}

abbrev pub decreases-loop-at : goal.decreases-loop-at
decreases-loop-at l = l.at
