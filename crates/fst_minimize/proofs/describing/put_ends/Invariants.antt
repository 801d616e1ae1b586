use Rattle.std.proofs.Common.{◌≡◌, map, take}
use Rattle.fst_minimize.proofs.describing.put_ends.Given as goal

abbrev pub invariant-loop-arc : goal.invariant-loop-arc
invariant-loop-arc g l = l.ends.items ≡ map (λ a. a.next) (take l.arc-index l.arcs)
