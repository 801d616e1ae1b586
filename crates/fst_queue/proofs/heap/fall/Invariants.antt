use Rattle.std.proofs.Common.{◌<◌, ◌-◌, length}
use Rattle.fst_queue.specs.Heap.{key_in, Linked, SamePresent}
use Rattle.fst_queue.specs.HeapOrder.{Falling}
use Rattle.fst_semiring.specs.Keys.{key_cmp}
use Rattle.fst_queue.proofs.heap.fall.Given as goal

abbrev pub invariant-loop-below : goal.invariant-loop-below
invariant-loop-below l = record {
  linked : Linked l.heap.items l.places.items (length l.keys.items);
  within : l.at < length l.heap.items;
  falling : Falling key_cmp (length l.heap.items) (key_in l.keys.items l.heap.items) l.at;
  same : SamePresent l.initial.places.items l.places.items;
}

abbrev pub decreases-loop-below : goal.decreases-loop-below
decreases-loop-below l = length l.heap.items - l.at
