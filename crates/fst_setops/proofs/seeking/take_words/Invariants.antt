use Rattle.std.proofs.Common.{◌-◌}
use Rattle.fst_machine.specs.Graph.{graph_of}
use Rattle.fst_machine.specs.Machine.{valued}
use Rattle.fst_setops.specs.Kept.{most_words}
use Rattle.fst_setops.specs.Sought.{IsNoted, IsSought, words_of}
use Rattle.fst_setops.proofs.seeking.take_words.Given as goal

abbrev pub invariant-loop-taken : goal.invariant-loop-taken
invariant-loop-taken g l = record {
  sought : IsSought g.W.Weight.KIND g.W.Weight.wide_value (graph_of (valued g.W.Weight.value l.a)) (graph_of (valued g.W.Weight.value l.b)) l.limit l.search.pairs l.search.slots.items l.search.nodes.items l.taken 0;
  noted : IsNoted g.W.Weight.KIND (graph_of (valued g.W.Weight.value l.a)) (graph_of (valued g.W.Weight.value l.b)) (words_of l.search.nodes.items) l.taken l.noted;
}

abbrev pub decreases-loop-taken : goal.decreases-loop-taken
decreases-loop-taken g l = most_words - l.taken
