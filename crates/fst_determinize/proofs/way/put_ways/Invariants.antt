use Rattle.std.proofs.Common.{◌≡◌, ◌++◌, take}
use Rattle.fst_machine.specs.Graph.{graph_of}
use Rattle.fst_machine.specs.Machine.{valued}
use Rattle.fst_determinize.specs.Kept.{members_as, ways_as}
use Rattle.fst_determinize.specs.Ways.{ways}
use Rattle.fst_determinize.proofs.way.put_ways.Given as goal

abbrev pub invariant-loop-member : goal.invariant-loop-member
invariant-loop-member g l = ways_as g.W.Weight.wide_value l.out.items ≡ ways_as g.W.Weight.wide_value l.fn.out.items ++ ways g.W.Weight.KIND (graph_of (valued g.W.Weight.value l.fst)) (members_as g.R.Kept.value (take l.member-index l.members))
