use Rattle.std.proofs.Common.{◌≡◌, ◌<◌, ◌++◌, [], get_or, length, reverse}
use Rattle.fst_setops.specs.Sought.{words_of}
use Rattle.fst_setops.proofs.spelling.put_backward.Given as goal

abbrev pub invariant-loop-at : goal.invariant-loop-at
invariant-loop-at g l = record {
  within : l.at < length l.nodes;
  put : get_or (words_of l.nodes) l.place [] ++ reverse l.fn.labels.items ≡ get_or (words_of l.nodes) l.at [] ++ reverse l.labels.items;
}

abbrev pub decreases-loop-at : goal.decreases-loop-at
decreases-loop-at g l = l.at
