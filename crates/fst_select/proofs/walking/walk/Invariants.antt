use Rattle.std.proofs.Common.{◌≡◌, [], length}
use Rattle.fst_machine.specs.Graph.{graph_of}
use Rattle.fst_machine.specs.Machine.{valued}
use Rattle.fst_select.specs.Entries.{words_of}
use Rattle.fst_select.proofs.Walks.{IsWalking, labels_left}
use Rattle.fst_select.proofs.walking.walk.Given as goal

abbrev pub invariant-loop-core : goal.invariant-loop-core
invariant-loop-core g l =
    let w = g.W.Weight in
    record {
      on : IsWalking w.KIND (graph_of (valued w.value l.outlook.machine)) w.wide_value l.outlook.due (words_of l.listed) l.initial.subsets.items l.subsets.items l.fn.entry l.core l.left.items l.word;
      clear : l.parts.items ≡ [];
    }

abbrev pub decreases-loop-core : goal.decreases-loop-core
decreases-loop-core g l = labels_left l.core.closed l.core.long (length l.word)
