use Rattle.std.proofs.Common.{◌≡◌, ◌++◌, map, take}
use Rattle.fst_machine.specs.Machine.{valued_arc}
use Rattle.fst_rational.proofs.change.put_arcs.Given as goal

abbrev pub invariant-loop-arc : goal.invariant-loop-arc
invariant-loop-arc g l = map (valued_arc g.W.Weight.value) l.out.items ≡ map (valued_arc g.W.Weight.value) l.initial.out.items ++ map (g.C.Change.changed_arc l.change) (map (valued_arc g.W.Weight.value) (take l.arc-index l.arcs))
