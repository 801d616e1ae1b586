use Rattle.std.proofs.Common.{◌≡◌, take}
use Rattle.fst_machine.specs.Graph.{graph_of}
use Rattle.fst_machine.specs.Machine.{valued}
use Rattle.fst_determinize.specs.Kept.{members_as}
use Rattle.fst_determinize.specs.Ways.{final_by}
use Rattle.fst_determinize.proofs.determinizing.last_weight.Given as goal

abbrev pub invariant-loop-member : goal.invariant-loop-member
invariant-loop-member g l = g.W.Weight.wide_value l.best ≡ final_by g.W.Weight.KIND (graph_of (valued g.W.Weight.value l.fst)) (members_as g.R.Kept.value (take l.member-index l.member-items))
