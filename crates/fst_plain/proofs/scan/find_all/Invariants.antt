use Rattle.std.proofs.Common.{map, take}
use Rattle.fst_machine.specs.BreadthFirst.{Grows}
use Rattle.fst_plain.proofs.scan.find_all.Given as goal

abbrev pub invariant-loop-arc : goal.invariant-loop-arc
invariant-loop-arc g l = Grows l.fn.names.items (map (λ a. a.next) (take l.arc-index l.arcs)) l.names.items
