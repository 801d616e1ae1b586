use Rattle.std.proofs.Common.{◌≡◌, take}
use Rattle.fst_machine.specs.Graph.{graph_of}
use Rattle.fst_machine.specs.Machine.{valued}
use Rattle.fst_select.specs.Keys.{best_total}
use Rattle.fst_select.proofs.parting.stop_total.Given as goal

abbrev pub invariant-loop-place : goal.invariant-loop-place
invariant-loop-place g l =
    let w = g.W.Weight in
    w.wide_value l.best ≡ best_total w.KIND (graph_of (valued w.value l.fst)).final (w.wide_value l.by) (take l.place l.subset)
