use Rattle.std.proofs.Common.{subst}
use Rattle.fst_machine.specs.Cycles.{IsUseful}
use Rattle.fst_machine.specs.Graph.{graph_of}
use Rattle.fst_machine.specs.Machine.{Machine, valued}
use Rattle.fst_search.specs.Distances.{NoneImproves}
use Rattle.fst_distance.proofs.by_distance.push_lazily.Goals as goal

pub returns-in-Ok-clause-none : goal.returns-in-Ok-clause-none
returns-in-Ok-clause-none g c =
    let value = g.W.Weight.value in
    subst (λ (m : Machine g.row.W.Denot). NoneImproves g.W.Weight.KIND (graph_of (valued value m)) (IsUseful (graph_of (valued value m)))) c.fst.ensures c.in_ok-all.ensures.none
