use Rattle.std.proofs.Common.{◌≡◌, map, take}
use Rattle.fst_machine.specs.Graph.{renamed}
use Rattle.fst_machine.specs.Machine.{valued_arc}
use Rattle.fst_minimize.specs.Numbered.{number_in}
use Rattle.fst_minimize.proofs.making.put_renamed.Given as goal

abbrev pub invariant-loop-arc : goal.invariant-loop-arc
invariant-loop-arc g l = map (valued_arc g.W.Weight.wide_value) l.out.items ≡ map (λ a. renamed (number_in l.numbers) (valued_arc g.W.Weight.wide_value a)) (take l.arc-index l.arcs)
